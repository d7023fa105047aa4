use Rattle.std.proofs.Common.{◌≡◌}
use Rattle.numa_mask.specs.NodeSet.{has}
use Rattle.numa_lanes.proofs.WithinLemmas.{passed_below}
use Rattle.numa_lanes.proofs.within.count_between_in.Given as goal

abbrev pub invariant-loop-number : goal.invariant-loop-number
invariant-loop-number l = l.total ≡ passed_below (has l.set) l.number l.block
