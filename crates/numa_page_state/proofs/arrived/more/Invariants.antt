-- The nodes so far have the difference, the others are as they were.
use Rattle.std.proofs.Common.{◌≡◌, ℕ, ◌-◌, ◌<◌, ◌≤◌, get_or, length}
use Rattle.numa_page_state.proofs.arrived.more.Given as goal

abbrev pub invariant-loop-node : goal.invariant-loop-node
invariant-loop-node l = record {
  long : length l.came ≡ 256;
  done : (node : ℕ) → node < l.node
      → get_or l.came node 0 ≡ get_or l.fn.after node 0 - get_or l.before node 0;
  ahead : (node : ℕ) → l.node ≤ node → get_or l.came node 0 ≡ get_or l.fn.after node 0;
}
