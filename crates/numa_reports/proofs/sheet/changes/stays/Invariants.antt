use Rattle.std.proofs.Common.{◌≤◌}
use Rattle.numa_reports.proofs.sheet.changes.stays.Given as goal

abbrev pub invariant-loop-left : goal.invariant-loop-left
invariant-loop-left g l = l.left ≤ l.span.pages

abbrev pub decreases-loop-left : goal.decreases-loop-left
decreases-loop-left g l = l.left
