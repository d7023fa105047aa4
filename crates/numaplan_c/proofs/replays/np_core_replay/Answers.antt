use Rattle.std.proofs.Common.{rules, Ok, Err, List, Vec, Global, refl, subst}
use Rattle.numa_traces.specs.declared.routes.RouteCounts.{RouteCounts}
use Rattle.numaplan_reports.specs.Compared.{IsReplayed}
use Rattle.numaplan_c.specs.Compared.{IsListed}
use Rattle.numaplan_c.proofs.replays.np_core_replay.Goals as goal

pub returns-in-Some-Ok : goal.returns-in-Some-Ok
returns-in-Some-Ok c = (
  search rules,
  (
    search rules,
    λ kept is. (
      Ok c.in-Some-Ok.routes.items,
      λ core at. subst (IsReplayed (λ (routes : Vec RouteCounts Global). routes.items) core.space
          c.args.trace.now) c.in-Some-Ok.field-0-is (c.in-Some-Ok.ensures.1.1 core at),
      subst (λ (routes : List RouteCounts). IsListed routes c.write_items-code.result c.args.room.now
          c.write_items-code.new.room c.write_items-code.new.count) c.as_slice.ensures.value
          c.write_items-code.ensures,
    ),
  ),
)

pub returns-in-Some-Err : goal.returns-in-Some-Err
returns-in-Some-Err c = (
  search rules,
  (
    search rules,
    λ kept is. (
      Err c.in-Some-Err.ended,
      λ core at. subst (IsReplayed (λ (routes : Vec RouteCounts Global). routes.items) core.space
          c.args.trace.now) c.in-Some-Err.field-0-is (c.in-Some-Err.ensures.1.1 core at),
      (search rules, refl, search rules),
    ),
  ),
)
