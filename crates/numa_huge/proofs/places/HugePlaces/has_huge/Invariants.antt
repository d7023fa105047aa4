-- A page of the span is mapped if one is by the runs that are left.
use Rattle.std.proofs.Common.{◌≡◌}
use Rattle.numa_placed.proofs.Stating.{AreLeft}
use Rattle.numa_huge.specs.Huge.{has_huge, huge_at}
use Rattle.numa_huge.proofs.Found.{left_has}
use Rattle.numa_huge.proofs.places.HugePlaces.has_huge.Given as goal

abbrev pub invariant-loop-run : goal.invariant-loop-run
invariant-loop-run l = record {
  has : left_has l.run-iterator l.first l.pages
      ≡ has_huge (huge_at l.self.runs) l.first l.pages;
  left : AreLeft l.run-iterator;
}
