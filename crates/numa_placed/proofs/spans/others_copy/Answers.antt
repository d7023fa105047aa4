use Rattle.std.proofs.Common.{ℕ, ap, ◌∙◌}
use Rattle.numa_placed.specs.Spots.{passed_over}
use Rattle.numa_placed.specs.declared.spot.Spot.{Spot}
use Rattle.numa_placed.proofs.spans.others_copy.Goals as goal

pub returns-clause-spots : goal.returns-clause-spots
returns-clause-spots c page =
    c.in-Ok-pass_over.ensures.spots page
    ∙ ap (λ (s : ℕ → Spot). passed_over c.args.resident.now c.args.said.first
    c.args.said.pages s page) (λ i p. c.in-Ok.ensures.spots p i)
