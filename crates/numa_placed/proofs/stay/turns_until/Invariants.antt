-- The pages so far lie alike, and there are as many.
use Rattle.std.proofs.Common.{◌≡◌, ℕ, ◌+◌, ◌<◌, ◌≤◌}
use Rattle.numa_placed.specs.Turns.{turn_node}
use Rattle.numa_placed.proofs.stay.turns_until.Given as goal

abbrev pub invariant-loop-passed : goal.invariant-loop-passed
invariant-loop-passed l = record {
  alike : (p : ℕ) → l.page ≤ p → p < l.page + l.passed
      → turn_node l.nodes l.turn p ≡ turn_node l.others l.other p;
  most : l.page + l.passed ≤ l.to;
}
