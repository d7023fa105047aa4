-- The pages of the nodes so far are added up, the others are as they were.
use Rattle.std.proofs.Common.{◌≡◌, ℕ, ◌+◌, ◌<◌, ◌≤◌, get_or, length}
use Rattle.numa_page_state.proofs.counts.add.Given as goal

abbrev pub invariant-loop-node : goal.invariant-loop-node
invariant-loop-node l = record {
  long : length l.pages ≡ 256;
  done : (node : ℕ) → node < l.node
      → get_or l.pages node 0 ≡ get_or l.fn.held node 0 + get_or l.stated node 0;
  ahead : (node : ℕ) → l.node ≤ node → get_or l.pages node 0 ≡ get_or l.fn.held node 0;
}
