-- The nodes so far are added, sent; those before them are as they were.
use Rattle.std.proofs.Common.{◌≡◌, ℕ, ◌+◌, ◌<◌, length, slice_index}
use Rattle.numa_placed.proofs.filling.push_sent.Given as goal

abbrev pub invariant-loop-place : goal.invariant-loop-place
invariant-loop-place l = record {
  size : length l.nodes.items ≡ length l.fn.nodes.items + l.place;
  before : (place : ℕ) → place < length l.fn.nodes.items
      → slice_index l.nodes.items place ≡ slice_index l.fn.nodes.items place;
  sent : (place : ℕ) → place < l.place
      → slice_index l.nodes.items (length l.fn.nodes.items + place)
      ≡ slice_index l.targets (slice_index l.fn.nodes.items place);
}
