-- None of the nodes so far has pages that are to go.
use Rattle.std.proofs.Common.{◌≡◌, ℕ, ◌+◌, ◌<◌, ◌≤◌, false}
use Rattle.numa_placed.specs.Binds.{wants_of}
use Rattle.numa_placed.specs.Turns.{turn_node}
use Rattle.numa_placed.specs.declared.spot.Spot.TheVariants.{Stated}
use Rattle.numa_placed.proofs.wants.Wants.first_in_turn.Given as goal

abbrev pub invariant-loop-passed : goal.invariant-loop-passed
invariant-loop-passed l = (p any : ℕ) → l.page ≤ p → p < l.page + l.passed
    → wants_of l.self any (Stated (turn_node l.nodes l.turn p)) ≡ false
