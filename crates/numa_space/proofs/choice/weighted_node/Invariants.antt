use Rattle.std.proofs.Common.{◌≡◌}
use Rattle.numa_mask.specs.NodeSet.{members}
use Rattle.numa_machine.specs.Weights.{weight_at, weighted_node, node_at}
use Rattle.numa_space.proofs.choice.weighted_node.Given as goal

abbrev pub invariant-loop-node : goal.invariant-loop-node
invariant-loop-node l = node_at (weight_at l.weights) (members l.node-iterator) l.place
    ≡ weighted_node (weight_at l.weights) l.set l.fn.turn
