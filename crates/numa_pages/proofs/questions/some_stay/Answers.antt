use Rattle.std.proofs.Common.{◌≡◌, ◌<◌, ◌*◌, ◌+◌, ℕ, ap, sym, subst, ◌∙◌, arith}
use Rattle.std.specs.Prelude.{◌/◌}
use Rattle.numa_placed.specs.Spots.{spot_at}
use Rattle.numa_huge.specs.Huge.{places_of}
use Rattle.numa_pages.proofs.Parts.{part-spot, parts-alike, small-alike, whole-spot}
use Rattle.numa_pages.proofs.questions.some_stay.Goals as goal

pub returns-in-Some-clause-spot : goal.returns-in-Some-clause-spot
returns-in-Some-clause-spot c =
    c.spot_of.ensures ∙ part-spot (places_of c.args.huge.now) (spot_at c.args.placed.now)
    c.args.page c.in-Some.spot (sym c.in-Some.is ∙ c.at.ensures)

pub returns-in-Some-clause-alike : goal.returns-in-Some-clause-alike
returns-in-Some-clause-alike c p low high =
    parts-alike (places_of c.args.huge.now) (spot_at c.args.placed.now) c.args.page p
    c.in-Some.spot (sym c.in-Some.is ∙ c.at.ensures) low high ∙ sym c.spot_of.ensures

pub returns-clause-spot : goal.returns-clause-spot
returns-clause-spot c =
    c.stay_at-stay.ensures.spot ∙ whole-spot (places_of c.args.huge.now)
    (spot_at c.args.placed.now) c.args.page (sym c.in_default.is ∙ c.at.ensures)

pub returns-clause-alike : goal.returns-clause-alike
returns-clause-alike c p low high =
    small-alike (places_of c.args.huge.now) (spot_at c.args.placed.now) c.args.page p
    c.stay_at-stay.result.end c.next_mapped-next.result c.stay_at-stay.result.spot
    (sym c.in_default.is ∙ c.at.ensures) c.next_mapped-next.ensures.passed
    c.stay_at-stay.ensures.alike low (subst (λ (n : ℕ). p < n) c.min.ensures high)
