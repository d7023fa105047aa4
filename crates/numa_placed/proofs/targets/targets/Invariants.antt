-- Nodes that aren't still to come have their target.
use Rattle.std.proofs.Common.{◌≡◌, ℕ, ◌<◌, get_or, length, Contains}
use Rattle.numa_mask.specs.NodeSet.{members}
use Rattle.numa_placed.specs.Moves.{moved_node}
use Rattle.numa_placed.proofs.targets.targets.Given as goal

abbrev pub invariant-loop-node : goal.invariant-loop-node
invariant-loop-node l = record {
  done : (n : ℕ) → n < 256 → (Contains (members l.node-iterator) n → ⊥)
      → get_or l.targets n 0 ≡ moved_node l.old l.new n;
  long : length l.targets ≡ 256;
}
