-- The pages of the nodes so far are added up, the others are as they were.
use Rattle.std.proofs.Common.{◌≡◌, ℕ, ◌<◌, ◌≤◌, get_or, length}
use Rattle.numa_host_pages.specs.Summed.{both_pages}
use Rattle.numa_host_pages.proofs.summing.add_row.Given as goal

abbrev pub invariant-loop-node : goal.invariant-loop-node
invariant-loop-node l = record {
  long : length l.flow ≡ 256;
  done : (node : ℕ) → node < l.node
      → get_or l.flow node 0 ≡ both_pages (get_or l.row node 0) (get_or l.fn.flow node 0);
  ahead : (node : ℕ) → l.node ≤ node → get_or l.flow node 0 ≡ get_or l.fn.flow node 0;
}
