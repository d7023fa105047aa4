use Rattle.std.proofs.Common.{◌≡◌, ◌++◌, ◌&&◌, not, filter, drop}
use Rattle.numa_mask.specs.NodeSet.{has}
use Rattle.numa_space.proofs.choice.push_others.Given as goal

abbrev pub invariant-loop-node : goal.invariant-loop-node
invariant-loop-node l = l.list.items ++ filter (λ node. has l.allowed node && not (has l.set node))
    (drop l.node-index l.order) ≡ l.initial.list.items
    ++ filter (λ node. has l.allowed node && not (has l.set node)) l.order
