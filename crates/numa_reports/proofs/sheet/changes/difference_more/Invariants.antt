use Rattle.numa_reports.specs.Moved.{HasRoomFor}
use Rattle.numa_reports.proofs.sheet.changes.difference_more.Given as goal

abbrev pub invariant-loop-span : goal.invariant-loop-span
invariant-loop-span g l = HasRoomFor l.difference.total.items l.difference.left
