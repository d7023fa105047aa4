-- There is a room for each node.
use Rattle.std.proofs.Common.{◌≡◌, length}
use Rattle.numa_placed.proofs.in_turn.left_after.Given as goal

abbrev pub invariant-loop-node : goal.invariant-loop-node
invariant-loop-node l = length l.left ≡ 256
