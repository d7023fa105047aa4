-- A core's tables, copied.
use Rattle.std.proofs.Common.{zero, suc, ◌≡◌, ℕ, Some, List, [], ◌∷◌, length, map, slice_get}
use Rattle.std.proofs.Common.{vec_len, refl, sym, ap, subst, ◌∙◌, arith}
use Rattle.std.specs.List.{AllZip}
use Rattle.numa_space.specs.Standing.{SpaceState}
use Rattle.numa_core.specs.declared.seat.WorkerSeat.{WorkerSeat}
use Rattle.numa_core.specs.declared.state.State.{State}
use Rattle.numa_core.specs.Hints.{AreLowest, AreMarked, AreTaken}
use Rattle.numa_core.specs.Kept.{IsKept}
use Rattle.numa_core.specs.Seats.{busy_of, HasRoom, SeatFits, IsSeatCopy}
use Rattle.numa_core.specs.Standing.{frames_before}

pub copies-busy : (seats copies : List WorkerSeat) → AllZip IsSeatCopy seats copies
    → map busy_of copies ≡ map busy_of seats
copies-busy [] [] same = refl
copies-busy [] (y ∷ ys) same = absurd same
copies-busy (x ∷ xs) [] same = absurd same
copies-busy (x ∷ xs) (y ∷ ys) same = λ i. same.0.busy i ∷ copies-busy xs ys same.1 i

copies-fit : (frames : List ℕ) (seats copies : List WorkerSeat) → AllZip IsSeatCopy seats copies
    → ((w : ℕ) (seat : WorkerSeat) → slice_get seats w ≡ Some seat → SeatFits frames seat)
    → (w : ℕ) (seat : WorkerSeat) → slice_get copies w ≡ Some seat → SeatFits frames seat
copies-fit frames [] [] same fits w seat at = fits w seat at
copies-fit frames [] (y ∷ ys) same fits w seat at = absurd same
copies-fit frames (x ∷ xs) [] same fits w seat at = absurd same
copies-fit frames (x ∷ xs) (y ∷ ys) same fits zero seat at =
    let is : y ≡ seat = cc in
    subst (SeatFits frames) is (same.0.fits frames (fits zero x refl))
copies-fit frames (x ∷ xs) (y ∷ ys) same fits (suc w) seat at =
    copies-fit frames xs ys same.1 (λ v. fits (suc v)) w seat at

pub kept-copy : (state copy : State) → copy.space ≡ state.space
    → copy.places ≡ copy.space.machine.frames
    → AllZip IsSeatCopy state.seats.items copy.seats.items
    → vec_len copy.seats ≡ vec_len state.seats
    → copy.owners.items ≡ state.owners.items → vec_len copy.owners ≡ vec_len state.owners
    → copy.taken.lowest.items ≡ state.taken.lowest.items
    → copy.taken.marks.items ≡ state.taken.marks.items
    → vec_len copy.taken.marks ≡ vec_len state.taken.marks
    → copy.unpublished ≡ state.unpublished → copy.plan ≡ state.plan → IsKept state → IsKept copy
kept-copy state copy space places seats count owners len lowest marks room unpublished plan kept =
    let same : state.places ≡ copy.places = kept.places ∙ ap (λ (s : SpaceState). s.machine.frames)
    (sym space) ∙ sym places in
    record {
      places = places;
      seats = λ w seat at. subst (λ frames. SeatFits frames seat) same
          (copies-fit state.places state.seats.items copy.seats.items seats kept.seats w seat at);
      owners = subst (λ frames. vec_len copy.owners ≡ frames_before frames (length frames)) same
          (len ∙ kept.owners);
      few = omega (arith, count, kept.few);
      taken = subst (λ frames. AreTaken frames copy.owners.items copy.taken) same (record {
        lowest = subst (λ os. AreLowest state.places os copy.taken.lowest.items) (sym owners)
            (subst (AreLowest state.places state.owners.items) (sym lowest) kept.taken.lowest);
        marked = subst (λ os. AreMarked os copy.taken.marks.items) (sym owners)
            (subst (AreMarked state.owners.items) (sym marks) kept.taken.marked);
        room = subst (λ words. HasRoom state.places words) (sym room) kept.taken.room;
      });
      behind = rw (unpublished, space, plan) kept.behind;
    }
