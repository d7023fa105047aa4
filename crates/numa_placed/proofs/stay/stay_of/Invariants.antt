-- The pages so far lie where the first does.
use Rattle.std.proofs.Common.{◌≡◌, ℕ, ◌-◌, ◌<◌, ◌≤◌, ◌^◌}
use Rattle.numa_placed.specs.Turns.{spots_of}
use Rattle.numa_placed.proofs.stay.stay_of.Given as goal

abbrev pub invariant-loop-end : goal.invariant-loop-end
invariant-loop-end l = record {
  rises : l.page ≤ l.end;
  within : l.end ≤ 2 ^ 35;
  alike : (p : ℕ) → l.page ≤ p → p < l.end → spots_of l.places p ≡ l.spot;
}

abbrev pub decreases-loop-end : goal.decreases-loop-end
decreases-loop-end l = 2 ^ 35 - l.end
