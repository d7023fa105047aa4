-- The pages so far lie where the first one does.
use Rattle.std.proofs.Common.{◌≡◌, ℕ, ◌-◌, ◌<◌, ◌≤◌, ◌^◌}
use Rattle.numa_placed.specs.Spots.{spot_at}
use Rattle.numa_huge.specs.Huge.{places_of}
use Rattle.numa_pages.specs.Sizes.{both_spots}
use Rattle.numa_pages.proofs.questions.stay_of.Given as goal

abbrev pub invariant-loop-end : goal.invariant-loop-end
invariant-loop-end l = record {
  rises : l.fn.page < l.end;
  within : l.end ≤ 2 ^ 35;
  alike : (p : ℕ) → l.fn.page ≤ p → p < l.end
      → both_spots (places_of l.huge) (spot_at l.placed) p ≡ l.spot;
}

abbrev pub decreases-loop-end : goal.decreases-loop-end
decreases-loop-end l = 2 ^ 35 - l.end
