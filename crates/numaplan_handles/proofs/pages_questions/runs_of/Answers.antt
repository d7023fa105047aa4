use Rattle.std.proofs.Common.{sym}
use Rattle.numa_placed.specs.Spots.{spot_at}
use Rattle.numa_huge.specs.Huge.{places_of}
use Rattle.numa_pages.specs.Sizes.{both_spots}
use Rattle.numaplan_handles.specs.Pages.{spots_in}
use Rattle.numaplan_handles.proofs.pages_questions.runs_of.Goals as goal

pub returns-in-Ok : goal.returns-in-Ok
returns-in-Ok c =
    c.in-Ok.ensures (spots_in c.args.pages.now) (λ page. sym (λ i.
    both_spots (places_of (c.huge.ensures i)) (spot_at (c.placed.ensures i)) page))
