-- The places that were walked.
use Rattle.std.proofs.Common.{◌≡◌, ℕ, length, ◌-◌}
use Rattle.std.specs.Prelude.{slice_index}
use Rattle.numa_pools.specs.Pools.{most}
use Rattle.numa_pools.proofs.Walked.{IsDone}
use Rattle.numa_pools.proofs.counts.left_of.Given as goal

abbrev pub invariant-loop-node : goal.invariant-loop-node
invariant-loop-node l = record {
  long : length l.left ≡ 256;
  old : length l.initial.left ≡ 256;
  done : IsDone (λ (k : ℕ). most - slice_index l.initial.left k) l.initial.left l.left l.node;
}
