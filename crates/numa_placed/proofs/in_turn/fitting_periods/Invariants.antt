-- No more than there are.
use Rattle.std.proofs.Common.{◌≤◌}
use Rattle.numa_placed.proofs.in_turn.fitting_periods.Given as goal

abbrev pub invariant-loop-node : goal.invariant-loop-node
invariant-loop-node l = l.periods ≤ l.most
