use Rattle.numa_placed.specs.Spots.{spot_at}
use Rattle.numaplan_handles.specs.Hosted.{spots_with}
use Rattle.numaplan_handles.proofs.BothSizes.{sizes-alike}
use Rattle.numaplan_handles.proofs.host_places.runs_there.Goals as goal

pub returns-in_default : goal.returns-in_default
returns-in_default c =
    rw c.in_default.is (λ memory spots are huge. c.huge_runs.ensures memory spots are huge)

pub returns-in-Ok : goal.returns-in-Ok
returns-in-Ok c = rw c.in-Some.is (λ memory spots are huge.
    c.in-Ok.ensures (spots_with memory spots)
    (sizes-alike c.args.huge memory spots (spot_at c.in-Some.placed.now) are huge))

pub returns-in-Err : goal.returns-in-Err
returns-in-Err c = λ memory spots are huge. tt
