-- The targets so far.
use Rattle.std.proofs.Common.{◌≡◌, ℕ, ◌<◌, get_or, length, slice_index}
use Rattle.numa_placed.specs.Standing.{target_from}
use Rattle.numa_placed.proofs.filling.targets_from.Given as goal

abbrev pub invariant-loop-node : goal.invariant-loop-node
invariant-loop-node l = record {
  done : (n : ℕ) → n < l.node → get_or l.sent n 0
      ≡ target_from (slice_index l.targets) (slice_index l.least) (slice_index l.gone) n;
  long : length l.sent ≡ 256;
}
