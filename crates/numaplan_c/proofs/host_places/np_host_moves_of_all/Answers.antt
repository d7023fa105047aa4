use Rattle.std.proofs.Common.{rules, Ok, Err, refl, subst}
use Rattle.std.specs.Prelude.{IfOk, Result}
use Rattle.numa_machine.specs.declared.no_memory.NoMemory.{NoMemory}
use Rattle.numaplan_handles.specs.Handles.{host_in}
use Rattle.numaplan_handles.specs.Hosted.{OfLying, TellsSum}
use Rattle.numaplan_handles.specs.declared.flows.LastFlows.{LastFlows}
use Rattle.numaplan_c.proofs.host_places.np_host_moves_of_all.Goals as goal

pub returns-in-Ok : goal.returns-in-Ok
returns-in-Ok c = (
  search rules,
  (
    search rules,
    λ kept is. (
      Ok c.in-Ok.last,
      subst (λ (a : Result LastFlows NoMemory). OfLying (host_in c.args.host.now)
          (λ at. IfOk a (λ told. TellsSum told at))) c.in-Ok.is c.in-Some.ensures.1.1,
      c.tell_last.ensures,
    ),
  ),
)

pub returns-in-Err : goal.returns-in-Err
returns-in-Err c = (
  search rules,
  (
    search rules,
    λ kept is. (Err c.in-Err.field-0, λ running there at runs. tt, (refl, refl, refl, refl)),
  ),
)
