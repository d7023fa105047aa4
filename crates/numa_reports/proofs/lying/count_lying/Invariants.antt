use Rattle.std.proofs.Common.{◌≡◌, ℕ, ◌-◌, ◌<◌, ◌≤◌, get_or, length}
use Rattle.numa_reports.specs.Lying.{planned_pages, spots_in}
use Rattle.numa_reports.proofs.lying.count_lying.Given as goal

abbrev pub invariant-loop-left : goal.invariant-loop-left
invariant-loop-left l = record {
  few : l.left ≤ l.pages;
  counts : (node : ℕ) → node < 256 → get_or l.counts node 0
      ≡ planned_pages l.asked.plan.now (spots_in l.asked.placed) l.asked.touch.task l.first
      (l.pages - l.left) l.asked.touch.cpu
      node;
  long : length l.counts ≡ 256;
}

abbrev pub decreases-loop-left : goal.decreases-loop-left
decreases-loop-left l = l.left
