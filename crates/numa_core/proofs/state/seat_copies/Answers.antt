use Rattle.std.proofs.Common.{List, sym, arith, subst}
use Rattle.std.specs.List.{AllZip}
use Rattle.std.proofs.Common.{take, ◌+◌}
use Rattle.std.proofs.lemmas.List.Elements.{all_zip_more}
use Rattle.numa_core.specs.declared.seat.WorkerSeat.{WorkerSeat}
use Rattle.numa_core.specs.Seats.{IsSeatCopy}
use Rattle.numa_core.proofs.state.seat_copies.Goals as goal

pub loop-seat-preserved : goal.loop-seat-preserved
loop-seat-preserved c =
    subst (λ (others : List WorkerSeat).
    AllZip IsSeatCopy (take (c.loop-seat.seat-index + 1) c.args.seats.now) others)
    (sym c.in_ok-push.ensures.items)
    (all_zip_more IsSeatCopy c.args.seats.now c.loop-seat.others.items c.loop-seat.seat-index
    c.seat-item.result c.in_ok-copy.field-0 (omega (arith, c.loop-seat-test.true))
    c.seat-item.is c.loop-seat.invariant c.in_ok-copy.ensures)
