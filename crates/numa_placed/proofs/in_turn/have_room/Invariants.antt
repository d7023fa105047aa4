-- The nodes so far have room.
use Rattle.std.proofs.Common.{ℕ, ◌<◌, ◌≤◌, slice_index}
use Rattle.numa_placed.specs.Shifts.{room_of}
use Rattle.numa_placed.proofs.in_turn.have_room.Given as goal

abbrev pub invariant-loop-node : goal.invariant-loop-node
invariant-loop-node l = (node : ℕ) → node < l.node
    → slice_index l.counts node ≤ room_of l.rooms node
