-- The nodes that are left are named still.
use Rattle.std.proofs.Common.{◌≡◌, ℕ, drop}
use Rattle.numa_placed.specs.Shifts.{AreRooms}
use Rattle.numa_moves.specs.Held.{limited_by}
use Rattle.numa_moves.proofs.holding.limit_all.Given as goal

abbrev pub invariant-loop-one : goal.invariant-loop-one
invariant-loop-one l = (room : ℕ → ℕ) → AreRooms l.fn.rooms room → (rest : ℕ → ℕ)
    × AreRooms l.rooms rest
    × (limited_by (drop l.one-index l.free) rest ≡ limited_by l.free room)
