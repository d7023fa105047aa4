-- The pages counted so far, and those of the runs that are left, are those of all runs.
use Rattle.std.proofs.Common.{◌≡◌, ℕ, ◌+◌, ◌<◌, get_or}
use Rattle.numa_huge.specs.Huge.{has_reserved, huge_at, on_node, pages_in}
use Rattle.numa_placed.proofs.Stating.{AreLeft}
use Rattle.numa_huge.proofs.Left.{left_where}
use Rattle.numa_huge.proofs.counts.counts_of.Given as goal

abbrev pub invariant-loop-run : goal.invariant-loop-run
invariant-loop-run l = record {
  on : (node : ℕ) → node < 256 → get_or l.counts.on node 0
      + left_where (on_node node) l.run-iterator l.first l.pages
      ≡ pages_in (on_node node) (huge_at l.map.runs) l.first l.pages;
  reserved : l.counts.reserved + left_where has_reserved l.run-iterator l.first l.pages
      ≡ pages_in has_reserved (huge_at l.map.runs) l.first l.pages;
  left : AreLeft l.run-iterator;
}
