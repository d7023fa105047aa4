-- The nodes so far.
use Rattle.std.proofs.Common.{◌≡◌, ℕ, ◌<◌, get_or, length}
use Rattle.numa_placed.proofs.targets.own.Given as goal

abbrev pub invariant-loop-node : goal.invariant-loop-node
invariant-loop-node l = record {
  done : (n : ℕ) → n < l.node → get_or l.nodes n 0 ≡ n;
  long : length l.nodes ≡ 256;
}
