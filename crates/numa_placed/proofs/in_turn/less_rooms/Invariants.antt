-- The rooms so far.
use Rattle.std.proofs.Common.{◌≡◌, ℕ, ◌<◌, ◌≤◌, get_or, length, slice_index}
use Rattle.numa_placed.specs.Shifts.{endless, less_room, room_of}
use Rattle.numa_placed.proofs.in_turn.less_rooms.Given as goal

abbrev pub invariant-loop-node : goal.invariant-loop-node
invariant-loop-node l = record {
  done : (n : ℕ) → n < l.node → get_or l.pages n 0
      ≡ less_room (room_of l.rooms n) (slice_index l.counts n);
  long : length l.pages ≡ 256;
  most : (n : ℕ) → n < l.node → room_of l.rooms n ≤ endless;
}
