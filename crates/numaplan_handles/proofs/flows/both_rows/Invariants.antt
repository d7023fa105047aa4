-- The pages of the nodes so far are added up, the others are as they were.
use Rattle.std.proofs.Common.{◌≡◌, ℕ, ◌<◌, ◌≤◌, get_or, length}
use Rattle.numa_host_pages.specs.Summed.{both_pages}
use Rattle.numaplan_handles.proofs.flows.both_rows.Given as goal

abbrev pub invariant-loop-node : goal.invariant-loop-node
invariant-loop-node l = record {
  long : length l.sum ≡ 256;
  done : (node : ℕ) → node < l.node
      → get_or l.sum node 0 ≡ both_pages (get_or l.fn.one node 0) (get_or l.other node 0);
  ahead : (node : ℕ) → l.node ≤ node → get_or l.sum node 0 ≡ get_or l.fn.one node 0;
}
