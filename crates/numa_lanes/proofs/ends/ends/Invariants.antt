use Rattle.std.proofs.Common.{◌≡◌, ◌<◌, ◌≤◌, ◌*◌, ℕ, get_or, length}
use Rattle.numa_lanes.proofs.ends.ends.Given as goal

abbrev pub invariant-loop-round : goal.invariant-loop-round
invariant-loop-round l = record {
  least : (k : ℕ) → k < l.round * 32 → (j : ℕ) × (j < 32)
      × (get_or l.least j 0 ≤ get_or l.block k 0);
  greatest : (k : ℕ) → k < l.round * 32 → (j : ℕ) × (j < 32)
      × (get_or l.block k 0 ≤ get_or l.greatest j 0);
  least_long : length l.least ≡ 32;
  greatest_long : length l.greatest ≡ 32;
}
