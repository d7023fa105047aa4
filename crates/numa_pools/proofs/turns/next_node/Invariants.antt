-- The first of the set among all nodes is the first among those that are left.
use Rattle.std.proofs.Common.{◌≡◌, drop, filter}
use Rattle.std.specs.Prelude.{slice_index}
use Rattle.numa_mask.specs.NodeSet.{has}
use Rattle.numa_pools.specs.Turns.{around, ring}
use Rattle.numa_pools.proofs.turns.next_node.Given as goal

abbrev pub invariant-loop-place : goal.invariant-loop-place
invariant-loop-place l =
    slice_index (ring l.nodes l.mark) 0
    ≡ slice_index (filter (has l.nodes) (drop l.place (around l.mark))) 0
