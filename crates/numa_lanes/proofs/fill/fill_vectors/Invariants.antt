use Rattle.std.proofs.Common.{◌≡◌, ◌<◌, ◌*◌, ℕ, get_or}
use Rattle.numa_lanes.proofs.fill.fill_vectors.Given as goal

abbrev pub invariant-loop-round : goal.invariant-loop-round
invariant-loop-round l = (k : ℕ) → k < l.round * 32 → get_or l.out k 0 ≡ l.node
