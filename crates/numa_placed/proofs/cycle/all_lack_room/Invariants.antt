-- The pages so far find no room.
use Rattle.std.proofs.Common.{◌≡◌, ℕ, ◌+◌, ◌<◌, ◌≤◌, None}
use Rattle.numa_placed.specs.Binds.{first_with_room, nodes_in}
use Rattle.numa_placed.specs.Shifts.{AreRooms}
use Rattle.numa_placed.proofs.cycle.all_lack_room.Given as goal

abbrev pub invariant-loop-passed : goal.invariant-loop-passed
invariant-loop-passed l = (room : ℕ → ℕ) → AreRooms l.rooms room
    → (p : ℕ) → l.page ≤ p → p < l.page + l.passed
    → first_with_room room (nodes_in l.space l.touch.task l.touch.cpu p) ≡ None
