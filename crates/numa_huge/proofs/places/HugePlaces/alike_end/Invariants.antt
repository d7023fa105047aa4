-- From the page on, the runs that are left have what all runs have.
use Rattle.std.proofs.Common.{◌≡◌, ◌≤◌, ℕ}
use Rattle.numa_placed.proofs.Stating.{AreLeft}
use Rattle.numa_huge.specs.Huge.{huge_at}
use Rattle.numa_huge.proofs.places.HugePlaces.alike_end.Given as goal

abbrev pub invariant-loop-run : goal.invariant-loop-run
invariant-loop-run l = record {
  same : (other : ℕ) → l.page ≤ other
      → huge_at l.run-iterator other ≡ huge_at l.self.runs other;
  left : AreLeft l.run-iterator;
}
