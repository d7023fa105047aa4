use Rattle.std.proofs.Common.{length, drop, ◌-◌, ◌+◌, ◌≤◌}
use Rattle.numa_reports.specs.Common.{AreRising}
use Rattle.numa_reports.proofs.Meeting.{IsGathered}
use Rattle.numa_reports.proofs.outlook.common_spans.Given as goal

abbrev pub invariant-loop-i : goal.invariant-loop-i
invariant-loop-i l = record {
  ones : l.i ≤ length l.ones;
  others : l.j ≤ length l.others;
  gathered : AreRising 0 l.ones → AreRising 0 l.others
      → IsGathered l.ones l.others l.found.items (drop l.i l.ones) (drop l.j l.others);
}

abbrev pub decreases-loop-i : goal.decreases-loop-i
decreases-loop-i l = (length l.ones - l.i) + (length l.others - l.j)
