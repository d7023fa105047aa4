-- The pages of the places so far are added.
use Rattle.std.proofs.Common.{◌≡◌, ℕ, ◌+◌, ◌<◌, get_or, length}
use Rattle.numa_placed.proofs.Cycles.{pages_before}
use Rattle.numa_placed.proofs.turn.add_turn.Given as goal

abbrev pub invariant-loop-place : goal.invariant-loop-place
invariant-loop-place l = record {
  long : length l.counts ≡ 256;
  counts : (node : ℕ) → node < 256 → get_or l.counts node 0 ≡ get_or l.fn.counts node 0
      + pages_before l.nodes l.turn l.place node l.first l.pages;
}
