use Rattle.std.proofs.Common.{◌≡◌, ◌<◌, ◌*◌, ◌+◌, ◌%◌, ℕ, get_or}
use Rattle.numa_lanes.proofs.turns.fill_vectors.Given as goal

abbrev pub invariant-loop-round : goal.invariant-loop-round
invariant-loop-round l = record {
  turn : l.turn ≡ (l.start + l.round * 64) % l.len;
  done : (k : ℕ) → k < l.round * 64 → get_or l.out k 0 ≡ get_or l.table ((l.start + k) % l.len) 0;
}
