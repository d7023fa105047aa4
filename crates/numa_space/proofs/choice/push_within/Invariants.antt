use Rattle.std.proofs.Common.{◌≡◌, ◌++◌, drop}
use Rattle.numa_space.specs.Lists.{within}
use Rattle.numa_space.proofs.choice.push_within.Given as goal

abbrev pub invariant-loop-node : goal.invariant-loop-node
invariant-loop-node l = l.list.items ++ within l.set (drop l.node-index l.order)
    ≡ l.initial.list.items ++ within l.set l.order
