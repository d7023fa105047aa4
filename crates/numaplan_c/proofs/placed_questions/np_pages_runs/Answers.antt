use Rattle.std.proofs.Common.{rules, Ok, Err, List, Vec, Global, refl, subst}
use Rattle.std.specs.Prelude.{IfOk, Result}
use Rattle.numa_machine.specs.declared.no_memory.NoMemory.{NoMemory}
use Rattle.numa_pages.specs.declared.listing.PageRun.{PageRun}
use Rattle.numaplan_c.specs.Compared.{IsListed}
use Rattle.numaplan_handles.specs.Handles.{pages_in}
use Rattle.numaplan_handles.specs.Pages.{HasRuns, TellsOf}
use Rattle.numaplan_c.proofs.placed_questions.np_pages_runs.Goals as goal

pub returns-in-Ok : goal.returns-in-Ok
returns-in-Ok c = (
  search rules,
  (
    search rules,
    λ kept is. (
      Ok c.in-Ok.runs.items,
      subst (λ (a : Result (Vec PageRun Global) NoMemory). IfOk a (λ list.
          TellsOf (HasRuns list.items) (pages_in c.args.pages.now))) c.in-Ok.is
          c.in-Some.ensures.1.1 kept is,
      subst (λ (runs : List PageRun). IsListed runs c.write_items-code.result c.args.room.now
          c.write_items-code.new.room c.write_items-code.new.count) c.as_slice.ensures.value
          c.write_items-code.ensures,
    ),
  ),
)

pub returns-in-Err : goal.returns-in-Err
returns-in-Err c = (
  search rules,
  (search rules, λ kept is. (Err c.in-Err.field-0, tt, (refl, refl, refl))),
)
