use Rattle.std.proofs.Common.{◌≤◌, ◌-◌}
use Rattle.numa_core.specs.Hints.{OwnsFrom}
use Rattle.numa_core.proofs.free_frames.free_number.Given as goal

abbrev pub invariant-loop-number : goal.invariant-loop-number
invariant-loop-number l = record {
  low : l.from ≤ l.number;
  few : l.number ≤ 4160;
  owned : OwnsFrom l.places l.owners.items l.node l.from l.number;
}

abbrev pub decreases-loop-number : goal.decreases-loop-number
decreases-loop-number l = l.frames - l.number
