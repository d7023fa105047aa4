use Rattle.std.proofs.Common.{◌≡◌, ◌<◌, ℕ, slice_index, length}
use Rattle.std.specs.Option.{option_map}
use Rattle.numa_traces.specs.Rooms.{room_before}
use Rattle.numa_traces.proofs.room.room_before.Given as goal

abbrev pub invariant-loop-node : goal.invariant-loop-node
invariant-loop-node l = record {
  long : length l.room.items ≡ l.node;
  each : (k : ℕ) → k < l.node → slice_index l.room.items k
      ≡ room_before (option_map (λ rooms. rooms.now) l.rooms) l.free k;
}
