-- The nodes from this one on give the node that all give.
use Rattle.std.proofs.Common.{◌≡◌, ℕ, ◌-◌, Bool, None}
use Rattle.numa_placed.specs.Moves.{AreTargets}
use Rattle.numa_placed.specs.Shifts.{source_from}
use Rattle.numa_placed.specs.Standing.{AreWaiting}
use Rattle.numa_placed.proofs.course.next_source.Given as goal

abbrev pub invariant-loop-node : goal.invariant-loop-node
invariant-loop-node l = record {
  so_far : (go : ℕ → ℕ) (still : ℕ → Bool) → AreTargets l.targets go → AreWaiting l.waits still
      → source_from go still l.last l.node (256 - l.node) ≡ source_from go still None 0 256;
}
