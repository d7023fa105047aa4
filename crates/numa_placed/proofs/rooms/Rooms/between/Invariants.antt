-- The rooms so far.
use Rattle.std.proofs.Common.{◌≡◌, ℕ, ◌<◌, get_or, length, slice_index}
use Rattle.numa_placed.specs.Shifts.{room_between, room_of}
use Rattle.numa_placed.proofs.rooms.Rooms.between.Given as goal

abbrev pub invariant-loop-node : goal.invariant-loop-node
invariant-loop-node l = record {
  done : (n : ℕ) → n < l.node → get_or l.pages n 0
      ≡ room_between (room_of l.self n) (slice_index l.before n) (slice_index l.after n);
  long : length l.pages ≡ 256;
}
