-- The places that were walked.
use Rattle.std.proofs.Common.{◌≡◌, ℕ, length, ◌-◌}
use Rattle.std.specs.Prelude.{slice_index}
use Rattle.numa_pools.proofs.Walked.{IsDone}
use Rattle.numa_pools.proofs.counts.take_each.Given as goal

abbrev pub invariant-loop-node : goal.invariant-loop-node
invariant-loop-node l = record {
  long : length l.xs ≡ 256;
  old : length l.initial.xs ≡ 256;
  other : length l.ys ≡ 256;
  done : IsDone (λ (k : ℕ). slice_index l.initial.xs k - slice_index l.ys k) l.initial.xs l.xs
      l.node;
}
