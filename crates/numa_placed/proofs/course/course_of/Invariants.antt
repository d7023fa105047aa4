-- From here on as many nodes go as are left to go.
use Rattle.std.proofs.Common.{◌≡◌, ℕ, ◌-◌}
use Rattle.numa_placed.specs.Moves.{AreTargets}
use Rattle.numa_placed.specs.Shifts.{ArePages, AreRooms, Going, going_from, steps}
use Rattle.numa_placed.specs.Standing.{GoesAs}
use Rattle.numa_placed.proofs.course.course_of.Given as goal

abbrev pub invariant-loop-turn : goal.invariant-loop-turn
invariant-loop-turn l = record {
  goes : (go count room : ℕ → ℕ) → AreTargets l.targets go → ArePages l.counts count
      → AreRooms l.rooms room → (going : Going) × GoesAs l.course going
      × (steps (256 - l.turn) go count going ≡ steps 256 go count (going_from l.from room));
}
