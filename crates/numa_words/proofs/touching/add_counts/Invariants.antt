-- The nodes so far.
use Rattle.std.proofs.Common.{◌≡◌, ℕ, ◌+◌, length}
use Rattle.std.specs.Prelude.{slice_index}
use Rattle.numa_pools.proofs.Walked.{IsDone}
use Rattle.numa_words.specs.Touching.{held}
use Rattle.numa_words.proofs.touching.add_counts.Given as goal

abbrev pub invariant-loop-node : goal.invariant-loop-node
invariant-loop-node l = record {
  long : length l.said.on ≡ 256;
  other : length l.counts.on ≡ 256;
  done : IsDone (λ (k : ℕ). held (slice_index l.initial.said.on k + slice_index l.counts.on k))
      l.initial.said.on l.said.on l.node;
  exhausted : l.said.exhausted ≡ l.initial.said.exhausted;
}
