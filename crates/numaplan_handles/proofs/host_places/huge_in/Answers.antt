use Rattle.numa_host_script.specs.Paging.{memory_at}
use Rattle.numaplan_handles.proofs.BothSizes.{kept-places}
use Rattle.numaplan_handles.proofs.host_places.huge_in.Goals as goal

pub returns-in-Some : goal.returns-in-Some
returns-in-Some c = λ at runs.
    kept-places (memory_at at c.args.process) c.in-Some.kept.now (c.in-Some.ensures at runs)

pub returns-in-None : goal.returns-in-None
returns-in-None c = λ at runs. c.in-None.ensures at runs
