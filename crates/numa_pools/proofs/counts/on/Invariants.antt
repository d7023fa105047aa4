-- The places that were walked.
use Rattle.std.proofs.Common.{◌≡◌, ℕ, length}
use Rattle.std.specs.Prelude.{slice_index, if◌then◌else◌}
use Rattle.numa_mask.specs.NodeSet.{has}
use Rattle.numa_pools.proofs.Walked.{IsDone}
use Rattle.numa_pools.proofs.counts.on.Given as goal

abbrev pub invariant-loop-node : goal.invariant-loop-node
invariant-loop-node l = record {
  long : length l.those ≡ 256;
  old : length l.initial.those ≡ 256;
  other : length l.xs ≡ 256;
  done : IsDone (λ (k : ℕ). if has l.nodes k then slice_index l.xs k else 0) l.initial.those
      l.those l.node;
}
