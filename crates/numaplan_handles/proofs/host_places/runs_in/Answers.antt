use Rattle.numa_host_script.specs.Paging.{memory_at, pages_at}
use Rattle.numaplan_handles.proofs.host_places.runs_in.Goals as goal

pub returns-in_default : goal.returns-in_default
returns-in_default c = λ at runs. c.in_default.ensures at.history runs.stands

pub returns : goal.returns
returns c = λ at runs. (
  (c.in-Some.ensures at.history runs.stands).0,
  c.runs_there.ensures (memory_at at c.args.process) (pages_at at c.args.process).spots
      (c.placed_in-placed.ensures at runs) (c.huge_in-huge.ensures at runs),
)
