-- The places that were walked.
use Rattle.std.proofs.Common.{◌≡◌, ℕ, length, min}
use Rattle.std.specs.Prelude.{slice_index}
use Rattle.numa_pools.proofs.Walked.{IsDone}
use Rattle.numa_pools.proofs.counts.least_of.Given as goal

abbrev pub invariant-loop-node : goal.invariant-loop-node
invariant-loop-node l = record {
  long : length l.lesser ≡ 256;
  old : length l.initial.lesser ≡ 256;
  other : length l.ys ≡ 256;
  done : IsDone (λ (k : ℕ). min (slice_index l.initial.lesser k) (slice_index l.ys k))
      l.initial.lesser l.lesser l.node;
}
