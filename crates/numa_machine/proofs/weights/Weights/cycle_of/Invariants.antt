use Rattle.std.proofs.Common.{◌≡◌, flat_map, replicate}
use Rattle.numa_machine.specs.Weights.{weight_at}
use Rattle.numa_machine.proofs.weights.Weights.cycle_of.Given as goal

abbrev pub invariant-loop-node : goal.invariant-loop-node
invariant-loop-node l = l.cycle.items ≡ flat_map (λ node. replicate (weight_at l.self node) node)
    l.yielded
