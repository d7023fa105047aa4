-- The processes so far.
use Rattle.std.proofs.Common.{◌≡◌, ◌++◌, map, take}
use Rattle.numa_moves.specs.Held.{Before, IsAsLeft, IsLeft, held_from, held_in, processes_in}
use Rattle.numa_moves.proofs.holding.add_all.Given as goal

abbrev pub invariant-loop-place : goal.invariant-loop-place
invariant-loop-place l = (before : Before) → IsLeft l.scene before → IsAsLeft l.origin
    → map held_in l.holdings.items ≡ map held_in l.fn.holdings.items
    ++ held_from before 0 (take l.place (processes_in l.scene))
