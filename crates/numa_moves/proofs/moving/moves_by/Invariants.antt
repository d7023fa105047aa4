-- The moves of the shares so far, and of those that are left, are all.
use Rattle.std.proofs.Common.{◌≡◌, ℕ, ◌++◌, drop}
use Rattle.numa_placed.specs.Moves.{AreTargets}
use Rattle.numa_placed.specs.Shifts.{ArePages}
use Rattle.numa_moves.specs.Moving.{moves_by}
use Rattle.numa_moves.proofs.moving.moves_by.Given as goal

abbrev pub invariant-loop-share : goal.invariant-loop-share
invariant-loop-share l = (go pages : ℕ → ℕ) → AreTargets l.to go → ArePages l.gone pages
    → (left : ℕ → ℕ) × ArePages l.left left
    × (l.moves.items ++ moves_by go left (drop l.share-index l.shares)
    ≡ moves_by go pages l.shares)
