-- No node so far is another one with pages.
use Rattle.std.proofs.Common.{◌≡◌, ℕ, ◌<◌, false, slice_index}
use Rattle.numa_placed.specs.Astray.{is_other}
use Rattle.numa_placed.proofs.astray.other_node.Given as goal

abbrev pub invariant-loop-node : goal.invariant-loop-node
invariant-loop-node l = (n : ℕ) → n < l.node
    → is_other l.list (slice_index l.counts) n ≡ false
