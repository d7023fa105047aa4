use Rattle.std.proofs.Common.{◌≡◌, drop, fold}
use Rattle.numa_mask.specs.NodeSet.{set_of, with_node}
use Rattle.numa_examples.proofs.sets.set_of.Given as goal

-- those that are left, added, give the whole
abbrev pub invariant-loop-number : goal.invariant-loop-number
invariant-loop-number l = fold with_node l.set (drop l.number-index l.nodes) ≡ set_of l.nodes
