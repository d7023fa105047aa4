-- No node so far is split.
use Rattle.std.proofs.Common.{◌≡◌, ℕ, ◌<◌, false, slice_index}
use Rattle.numa_placed.specs.Standing.{is_split}
use Rattle.numa_placed.proofs.filling.split_node.Given as goal

abbrev pub invariant-loop-node : goal.invariant-loop-node
invariant-loop-node l = (n : ℕ) → n < l.node
    → is_split (slice_index l.counts) (slice_index l.gone) n ≡ false
