use Rattle.std.proofs.Common.{◌≡◌, ◌⊎◌, inl, inr, ℕ, None, Some, List, [], ◌∷◌, ◌++◌, slice_get}
use Rattle.std.proofs.Common.{arith, ap, sym, subst, ◌∙◌, zero, suc}
use Rattle.numa_core.specs.declared.seat.WorkerSeat.{WorkerSeat}
use Rattle.numa_core.specs.Seats.{SeatFits}
use Rattle.numa_core.proofs.state.idle_seats.Goals as goal

-- an element of a list that grew by one
slice_get-push : {X : Type 0} (xs : List X) (x : X) (w : ℕ) (y : X) → slice_get (xs ++ x ∷ []) w
    ≡ Some y → (slice_get xs w ≡ Some y) ⊎ (x ≡ y)
slice_get-push [] x zero y e = inr (cc)
slice_get-push [] x (suc w) y e = absurd (cc)
slice_get-push (z ∷ xs) x zero y e = inl e
slice_get-push (z ∷ xs) x (suc w) y e = slice_get-push xs x w y e

pub loop-preserved : goal.loop-preserved
loop-preserved c = record {
  count = omega (arith, c.in_ok-push.ensures.len, c.loop.invariant.count);
  idle = λ w seat at.
      go seat
      (slice_get-push c.loop.seats.items c.in_ok-seat.seat w seat
      (sym (ap (λ xs. slice_get xs w) c.in_ok-push.ensures.items) ∙ at))
      (c.loop.invariant.idle w seat);
}
  where
    go : (seat : WorkerSeat) {P : Type 0} → P ⊎ (c.in_ok-seat.seat ≡ seat)
        → (P → (seat.job ≡ None) × SeatFits c.args.places.now seat) → (seat.job ≡ None)
        × SeatFits c.args.places.now seat
    go seat (inl at) before = before at
    go seat (inr is) before =
        subst (λ (s : WorkerSeat). (s.job ≡ None) × SeatFits c.args.places.now s) is
        (c.in_ok-seat.ensures.idle, c.in_ok-seat.ensures.fits)
