-- The nodes of the places so far are added; those before them are as they were.
use Rattle.std.proofs.Common.{◌≡◌, ℕ, ◌+◌, ◌<◌, length, slice_index}
use Rattle.numa_placed.proofs.tidy.push_turn.Given as goal

abbrev pub invariant-loop-place : goal.invariant-loop-place
invariant-loop-place l = record {
  size : length l.made.items ≡ length l.fn.made.items + l.place;
  before : (place : ℕ) → place < length l.fn.made.items
      → slice_index l.made.items place ≡ slice_index l.fn.made.items place;
  pushed : (place : ℕ) → place < l.place
      → slice_index l.made.items (length l.fn.made.items + place)
      ≡ slice_index l.nodes (l.turn.from + place);
}
