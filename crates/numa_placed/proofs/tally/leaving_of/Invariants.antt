-- Nodes that aren't still to come have the pages that leave them.
use Rattle.std.proofs.Common.{◌≡◌, ℕ, ◌<◌, get_or, length, slice_index, Contains}
use Rattle.numa_mask.specs.NodeSet.{members}
use Rattle.numa_placed.specs.Tallies.{leave_on}
use Rattle.numa_placed.proofs.tally.leaving_of.Given as goal

abbrev pub invariant-loop-node : goal.invariant-loop-node
invariant-loop-node l = record {
  done : (n : ℕ) → n < 256 → (Contains (members l.node-iterator) n → ⊥)
      → get_or l.sent n 0 ≡ leave_on (slice_index l.targets) (slice_index l.counts) n;
  long : length l.sent ≡ 256;
}
