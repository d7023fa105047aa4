-- The pages of the nodes below this one are free.
use Rattle.std.proofs.Common.{◌≡◌, ◌≤◌}
use Rattle.std.specs.Prelude.{slice_index}
use Rattle.numa_pools.specs.Kept.{AreKept}
use Rattle.numa_huge.specs.Huge.{freeing_below}
use Rattle.numa_huge.proofs.places.mapping.free_all.Given as goal

abbrev pub invariant-loop-node : goal.invariant-loop-node
invariant-loop-node l = record {
  kept : AreKept l.initial.pools;
  bound : l.node ≤ 256;
  pools : l.pools ≡ freeing_below l.node (slice_index l.on) l.initial.pools;
}
