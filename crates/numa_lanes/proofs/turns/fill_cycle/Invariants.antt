use Rattle.std.proofs.Common.{◌≡◌, ◌<◌, ◌+◌, ◌%◌, ℕ, get_or}
use Rattle.numa_lanes.proofs.turns.fill_cycle.Given as goal

abbrev pub invariant-loop-page : goal.invariant-loop-page
invariant-loop-page l = record {
  turn : l.turn ≡ (l.fn.start + l.page) % l.len;
  done : (k : ℕ) → k < l.page → get_or l.out k 0 ≡ get_or l.table ((l.fn.start + k) % l.len) 0;
}
