-- The nodes of the places so far are added.
use Rattle.std.proofs.Common.{◌≡◌, ℕ, ◌+◌, ◌<◌, Some, length, slice_index}
use Rattle.numa_placed.specs.Binds.{first_with_room, nodes_in}
use Rattle.numa_placed.specs.Periods.{page_with}
use Rattle.numa_placed.specs.Shifts.{AreRooms}
use Rattle.numa_placed.proofs.cycle.push_cycle.Given as goal

abbrev pub invariant-loop-place : goal.invariant-loop-place
invariant-loop-place l = record {
  size : length l.nodes.items ≡ length l.fn.nodes.items + l.place;
  before : (place : ℕ) → place < length l.fn.nodes.items
      → slice_index l.nodes.items place ≡ slice_index l.fn.nodes.items place;
  heads : (room : ℕ → ℕ) → AreRooms l.rooms room → (place : ℕ) → place < l.place
      → first_with_room room
      (nodes_in l.space l.touch.task l.touch.cpu (page_with l.count l.page place))
      ≡ Some (slice_index l.nodes.items (length l.fn.nodes.items + place));
}
