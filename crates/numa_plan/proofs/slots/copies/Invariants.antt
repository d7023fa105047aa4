use Rattle.std.proofs.Common.{◌≡◌, ◌≤◌, take, length}
use Rattle.std.specs.Prelude.{vec_capacity, vec_len}
use Rattle.numa_plan.proofs.slots.copies.Given as goal

abbrev pub invariant-loop-slot : goal.invariant-loop-slot
invariant-loop-slot l = record {
  same : l.others.items ≡ take l.slot-index l.slots;
  size : vec_len l.others ≡ l.slot-index;
  room : length l.slots ≤ vec_capacity l.others;
}
