-- The nodes so far are sent, the others are as they were.
use Rattle.std.proofs.Common.{◌≡◌, ℕ, ◌<◌, ◌≤◌, get_or, length, slice_index}
use Rattle.numa_placed.proofs.filling.send_first.Given as goal

abbrev pub invariant-loop-place : goal.invariant-loop-place
invariant-loop-place l = record {
  long : length l.nodes.items ≡ length l.fn.nodes.items;
  done : (place : ℕ) → place < l.place → get_or l.nodes.items place 0
      ≡ slice_index l.targets (get_or l.fn.nodes.items place 0);
  ahead : (place : ℕ) → l.place ≤ place
      → get_or l.nodes.items place 0 ≡ get_or l.fn.nodes.items place 0;
}
