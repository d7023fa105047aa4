use Rattle.numa_host_script.specs.Paging.{memory_at, pages_at}
use Rattle.numaplan_handles.specs.Hosted.{arrival_of}
use Rattle.numaplan_handles.proofs.BothSizes.{came-small, kept-arrived}
use Rattle.numaplan_handles.proofs.host_pages.arrived_in.Goals as goal

pub returns-in-Some : goal.returns-in-Some
returns-in-Some c = λ at runs.
    c.arrived_with.ensures (pages_at at c.args.process).arrived
    (arrival_of (memory_at at c.args.process)) (c.small_arrived-small.ensures at runs)
    (kept-arrived (memory_at at c.args.process) c.in-Some.kept.now (c.in-Some.ensures at runs))

pub returns-in-None : goal.returns-in-None
returns-in-None c = λ at runs.
    came-small (memory_at at c.args.process) c.small_arrived-small.result
    (pages_at at c.args.process).arrived (c.in-None.ensures at runs)
    (c.small_arrived-small.ensures at runs)
