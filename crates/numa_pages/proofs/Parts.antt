-- Pages of 4 KiB, and those of 2 MiB of which they are parts.
use Rattle.std.proofs.Common.{◌≡◌, ◌≢◌, ℕ, ◌+◌, ◌*◌, ◌<◌, ◌≤◌, ◌^◌, Option, Some, None, refl, sym}
use Rattle.std.proofs.Common.{ap}
use Rattle.std.proofs.Common.{subst, ◌∙◌, arith, inl, inr}
use Rattle.std.proofs.lemmas.Bool.{cases_lt}
use Rattle.std.specs.Prelude.{◌/◌, min}
use Rattle.numa_placed.specs.Spots.{node_of}
use Rattle.numa_placed.specs.declared.spot.Spot.{Spot}
use Rattle.numa_huge.specs.Huge.{HugeLying, node_of as huge_node}
use Rattle.numa_huge.specs.declared.spot.HugeSpot.{HugeSpot}
use Rattle.numa_page_state.specs.Huge.{spot_of}
use Rattle.numa_pages.specs.Sizes.{both_spots, part_spot}

spot-node : (lies : Option ℕ) → node_of (spot_of lies) ≡ lies
spot-node None = refl
spot-node (Some node) = refl

-- where the page of 2 MiB lies
pub part-node : (huge : HugeLying) (spots : ℕ → Spot) (page : ℕ) (at : HugeSpot)
    → Some at ≡ huge.spots (page / 512) → huge_node (Some at) ≡ node_of (both_spots huge spots page)
part-node huge spots page at is =
    sym (spot-node (huge_node (Some at)))
    ∙ ap (λ (s : Option HugeSpot). node_of (part_spot s (spots page))) is

pub part-spot : (huge : HugeLying) (spots : ℕ → Spot) (page : ℕ) (at : HugeSpot)
    → Some at ≡ huge.spots (page / 512)
    → spot_of (huge_node (Some at)) ≡ both_spots huge spots page
part-spot huge spots page at is = ap (λ (s : Option HugeSpot). part_spot s (spots page)) is

-- where one of 4 KiB lies
pub whole-spot : (huge : HugeLying) (spots : ℕ → Spot) (page : ℕ) → None ≡ huge.spots (page / 512)
    → spots page ≡ both_spots huge spots page
whole-spot huge spots page is = ap (λ (s : Option HugeSpot). part_spot s (spots page)) is

pub whole-node : (huge : HugeLying) (spots : ℕ → Spot) (page : ℕ) → None ≡ huge.spots (page / 512)
    → node_of (spots page) ≡ node_of (both_spots huge spots page)
whole-node huge spots page is = ap node_of (whole-spot huge spots page is)

-- the parts of one page
pub parts-alike : (huge : HugeLying) (spots : ℕ → Spot) (page p : ℕ) (at : HugeSpot)
    → Some at ≡ huge.spots (page / 512) → page ≤ p → p < (page / 512 + 1) * 512
    → both_spots huge spots p ≡ spot_of (huge_node (Some at))
parts-alike huge spots page p at is low high =
    let same : p / 512 ≡ page / 512 = omega (arith, low, high) in
    sym (part-spot huge spots p at (is ∙ ap huge.spots (sym same)))

-- pages of 4 KiB, up to the next one of 2 MiB
pub small-alike : (huge : HugeLying) (spots : ℕ → Spot) (page p end next : ℕ) (spot : Spot)
    → None ≡ huge.spots (page / 512)
    → ((other : ℕ) → page / 512 + 1 ≤ other → other < next → huge.spots other ≡ None)
    → ((q : ℕ) → page ≤ q → q < end → spots q ≡ spot) → page ≤ p → p < min end (next * 512)
    → both_spots huge spots p ≡ spot
small-alike huge spots page p end next spot here passed alike low high =
    let none : None ≡ huge.spots (p / 512) = elim (cases_lt (page / 512) (p / 512)) [
      | inl above ↦ sym (passed (p / 512) (omega (arith, above)) (omega (arith, high)))
      | inr same ↦ here ∙ ap huge.spots (omega (arith, low, same))
    ] in
    sym (whole-spot huge spots p none) ∙ alike p low (omega (arith, high))
