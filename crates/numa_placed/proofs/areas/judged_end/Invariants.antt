-- From where the walk stands it finds the page that it is to find.
use Rattle.std.proofs.Common.{◌≡◌}
use Rattle.numa_placed.proofs.Stating.{AreLeft}
use Rattle.numa_placed.proofs.Walking.{walked}
use Rattle.numa_placed.proofs.areas.judged_end.Given as goal

abbrev pub invariant-loop-range : goal.invariant-loop-range
invariant-loop-range l = record {
  left : AreLeft l.range-iterator;
  walk : walked l.range-iterator l.area l.page l.end
      ≡ walked l.space.ranges l.first l.first l.end;
}
