use Rattle.numa_reports.proofs.Refusing.{AreLeft}
use Rattle.numa_reports.proofs.sheet.cells.first_cells.Given as goal

abbrev pub invariant-loop-range : goal.invariant-loop-range
invariant-loop-range l = AreLeft l.range-iterator l.asked.space.now.ranges
