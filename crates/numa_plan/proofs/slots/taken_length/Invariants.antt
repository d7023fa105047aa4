use Rattle.std.proofs.Common.{◌≡◌, ◌≤◌, length, take}
use Rattle.numa_plan.specs.Editing.{up_to_last_taken}
use Rattle.numa_plan.proofs.slots.taken_length.Given as goal

abbrev pub invariant-loop-kept : goal.invariant-loop-kept
invariant-loop-kept l = record {
  within : l.kept ≤ length l.slots;
  same : up_to_last_taken (take l.kept l.slots) ≡ up_to_last_taken l.slots;
}

abbrev pub decreases-loop-kept : goal.decreases-loop-kept
decreases-loop-kept l = l.kept
