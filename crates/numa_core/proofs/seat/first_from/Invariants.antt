use Rattle.numa_core.specs.Seats.{IsPassed}
use Rattle.numa_core.proofs.seat.first_from.Given as goal

abbrev pub invariant-loop-rank : goal.invariant-loop-rank
invariant-loop-rank l = IsPassed l.places l.nodes l.met.items l.rank l.next
