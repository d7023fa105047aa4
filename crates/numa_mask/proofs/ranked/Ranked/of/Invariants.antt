use Rattle.std.proofs.Common.{◌≡◌, ◌++◌}
use Rattle.numa_mask.specs.NodeSet.{members}
use Rattle.numa_mask.proofs.ranked.Ranked.of.Given as goal

abbrev pub invariant-loop-node : goal.invariant-loop-node
invariant-loop-node l = members l.set ≡ l.nodes.items ++ members l.node-iterator
