use Rattle.std.proofs.Common.{ℕ, is_some, ap, ◌∙◌}
use Rattle.numa_ranges.specs.Runs.{page_at}
use Rattle.numa_placed.specs.Spots.{stated_spots}
use Rattle.numa_placed.specs.declared.spot.Spot.{Spot}
use Rattle.numa_placed.proofs.spans.stated_copy.Goals as goal

pub returns-clause-spots : goal.returns-clause-spots
returns-clause-spots c page =
    c.in-Ok-state_ranges.ensures.spots page
    ∙ ap (λ (spots : ℕ → Spot). stated_spots (λ p. is_some (page_at c.args.space.now.ranges p))
    c.args.said.first c.args.said.pages c.args.said.node spots page)
    (λ i p. c.in-Ok.ensures.spots p i)
