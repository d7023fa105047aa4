use Rattle.std.proofs.Common.{◌≡◌, ◌+◌, ◌-◌, ◌≤◌}
use Rattle.numa_reports.specs.Filled.{free_behind}
use Rattle.numa_reports.specs.Lying.{absent_nodes, asked_nodes, spots_in}
use Rattle.numa_placed.specs.Periods.{Repeats}
use Rattle.numa_reports.proofs.absent.fill_there.Given as goal

abbrev pub invariant-loop-left : goal.invariant-loop-left
invariant-loop-left l = record {
  few : l.left ≤ l.pages;
  same : Repeats (asked_nodes l.asked) l.first l.pages l.period
      → free_behind (absent_nodes (spots_in l.asked.placed) (asked_nodes l.asked)) l.free
      (l.first + (l.pages - l.left)) l.left
      ≡ free_behind (absent_nodes (spots_in l.asked.placed) (asked_nodes l.asked)) l.fn.free l.first
      l.pages;
}

abbrev pub decreases-loop-left : goal.decreases-loop-left
decreases-loop-left l = l.left
