use Rattle.std.proofs.Common.{◌≡◌, ℕ, ◌<◌, get_or, length}
use Rattle.std.specs.Prelude.{if◌then◌else◌}
use Rattle.numa_mask.specs.NodeSet.{has}
use Rattle.numa_placed.proofs.course.waiting.Given as goal

abbrev pub invariant-loop-node : goal.invariant-loop-node
invariant-loop-node l = record {
  done : (n : ℕ) → n < l.node → get_or l.waits n 0 ≡ (if has l.set n then 1 else 0);
  long : length l.waits ≡ 256;
}
