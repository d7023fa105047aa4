-- There is a room for each node.
use Rattle.std.proofs.Common.{◌≡◌, length}
use Rattle.numa_placed.proofs.in_turn.fitting_pages.Given as goal

abbrev pub invariant-loop-passed : goal.invariant-loop-passed
invariant-loop-passed l = length l.left ≡ 256
