use Rattle.std.proofs.Common.{ap, ◌∙◌}
use Rattle.numa_ranges.specs.Ranges.{Ranges}
use Rattle.numa_ranges.specs.Runs.{page_at}
use Rattle.numa_placed.specs.declared.turn.Slot.{Slot}
use Rattle.numa_placed.proofs.Fresh.{stored-new}
use Rattle.numa_placed.proofs.placed.Placed.new.Goals as goal

pub invariant_of-result : goal.invariant_of-result
invariant_of-result c =
    stored-new _ (page_at c.new-map.result.runs)
    (λ page. ap (λ (map : Ranges Slot). page_at map.runs page) c.new-map.ensures)
    c.in-Ok.ensures.ok
    (c.map_span.ensures.max_ranges ∙ ap (λ (map : Ranges Slot). map.max_ranges) c.new-map.ensures)
