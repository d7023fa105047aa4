-- The first of all nodes with a free page is the first of those that are left.
use Rattle.std.proofs.Common.{◌≡◌, drop}
use Rattle.numa_pools.specs.Pools.{first_free}
use Rattle.numa_pools.proofs.pools.first_free.Given as goal

abbrev pub invariant-loop-node : goal.invariant-loop-node
invariant-loop-node l =
    first_free l.free l.nodes ≡ first_free l.free (drop l.node-index l.nodes)
