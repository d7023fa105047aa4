use Rattle.std.proofs.Common.{take}
use Rattle.std.specs.List.{AllZip}
use Rattle.numa_core.specs.Seats.{IsSeatCopy}
use Rattle.numa_core.proofs.state.seat_copies.Given as goal

abbrev pub invariant-loop-seat : goal.invariant-loop-seat
invariant-loop-seat l = AllZip IsSeatCopy (take l.seat-index l.seats) l.others.items
