use Rattle.std.proofs.Common.{◌≡◌, ◌-◌}
use Rattle.numa_reports.specs.Filled.{free_behind}
use Rattle.numa_reports.specs.Lying.{asked_nodes}
use Rattle.numa_reports.proofs.filling.fill_pages.Given as goal

abbrev pub invariant-loop-page : goal.invariant-loop-page
invariant-loop-page l = free_behind (asked_nodes l.asked) l.free l.page
    (l.page-end - l.page) ≡ free_behind (asked_nodes l.asked) l.fn.free
    l.first l.pages
