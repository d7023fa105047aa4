use Rattle.std.proofs.Common.{◌≡◌, ℕ, None, Some, slice_get, vec_len}
use Rattle.numa_core.specs.declared.seat.WorkerSeat.{WorkerSeat}
use Rattle.numa_core.specs.Seats.{SeatFits}
use Rattle.numa_core.proofs.state.idle_seats.Given as goal

abbrev pub invariant-loop : goal.invariant-loop
invariant-loop l = record {
  count : vec_len l.seats ≡ l.counter;
  idle : (w : ℕ) (seat : WorkerSeat) → slice_get l.seats.items w ≡ Some seat → (seat.job ≡ None)
      × SeatFits l.places seat;
}
