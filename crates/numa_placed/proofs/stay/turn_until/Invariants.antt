-- The pages so far lie on the node.
use Rattle.std.proofs.Common.{◌≡◌, ℕ, ◌+◌, ◌<◌, ◌≤◌}
use Rattle.numa_placed.specs.Turns.{turn_node}
use Rattle.numa_placed.proofs.stay.turn_until.Given as goal

abbrev pub invariant-loop-passed : goal.invariant-loop-passed
invariant-loop-passed l = (p : ℕ) → l.page ≤ p → p < l.page + l.passed
    → turn_node l.nodes l.turn p ≡ l.node
