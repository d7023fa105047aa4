use Rattle.std.proofs.Common.{◌≡◌, ℕ, ◌<◌, ◌≤◌, length}
use Rattle.std.specs.Prelude.{slice_index}
use Rattle.numa_pool.proofs.pools.frame_counts.Given as goal

abbrev pub invariant-loop-node : goal.invariant-loop-node
invariant-loop-node l = record {
  made : length l.counts.items ≡ l.node;
  same : (n : ℕ) → n < l.node → slice_index l.counts.items n ≡ slice_index l.machine.frames n;
  low : (n : ℕ) → slice_index l.counts.items n ≤ 4096;
}
