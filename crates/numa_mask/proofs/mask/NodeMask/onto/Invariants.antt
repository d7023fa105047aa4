use Rattle.std.proofs.Common.{◌≡◌}
use Rattle.std.specs.List.{filter_map}
use Rattle.numa_mask.specs.NodeSet.{set_of, nth_member}
use Rattle.numa_mask.proofs.mask.NodeMask.onto.Given as goal

abbrev pub invariant-loop-node : goal.invariant-loop-node
invariant-loop-node l = l.set ≡ set_of (filter_map (nth_member l.fn.other) l.yielded)
