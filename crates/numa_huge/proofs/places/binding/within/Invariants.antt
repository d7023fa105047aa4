use Rattle.std.proofs.Common.{◌≡◌, ◌++◌, drop}
use Rattle.numa_space.specs.Lists.{within}
use Rattle.numa_huge.proofs.places.binding.within.Given as goal

abbrev pub invariant-loop-node : goal.invariant-loop-node
invariant-loop-node l = l.found.items ++ within l.set (drop l.node-index l.nodes)
    ≡ within l.set l.nodes
