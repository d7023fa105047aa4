use Rattle.std.proofs.Common.{Some, ◌∙◌, sym}
use Rattle.numa_placed.specs.Spots.{spot_at}
use Rattle.numaplan_handles.specs.Hosted.{spots_with}
use Rattle.numaplan_handles.proofs.BothSizes.{none-with, sizes-alike}
use Rattle.numaplan_handles.proofs.host_places.huge_runs.Goals as goal

pub returns-in_default : goal.returns-in_default
returns-in_default c = rw c.in_default.is (λ memory spots are none.
    rw c.new.ensures.items (λ page low high. none-with memory spots page none (are page)))

pub returns-in-Ok : goal.returns-in-Ok
returns-in-Ok c = rw c.in-Some.is (λ memory spots are huge.
    c.in-Ok.ensures (spots_with memory spots)
    (sizes-alike (Some c.in-Some.huge) memory spots (spot_at c.in_ok-placed.placed)
    (λ page. c.in_ok-placed.ensures page ∙ sym (are page)) huge))

pub returns-in-Err : goal.returns-in-Err
returns-in-Err c = λ memory spots are huge. tt
