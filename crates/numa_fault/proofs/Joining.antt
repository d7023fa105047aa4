-- The seats of workers are joined one by one, the last one first.
use Rattle.std.proofs.Common.{◌≡◌, ℕ, List, [], ◌∷◌, ◌++◌, Option, Some, refl, sym, ap}
use Rattle.std.proofs.Common.{◌∙◌, arith, append_assoc}
use Rattle.std.proofs.Common.{length, take}
use Rattle.std.specs.Prelude.{option_to_list}
use Rattle.std.proofs.Math.Seq.{take-append_seam}
use Rattle.numa_pool.specs.Frames.{times, IsOnce}
use Rattle.numa_pool.specs.Seats.{SeatView}
use Rattle.numa_pool.specs.Steps.{one_other, joined, past_of}
use Rattle.numa_pool.proofs.Totals.{times_append}
use Rattle.numa_fault.specs.Crew.{IsJoined}
use Rattle.numa_fault.specs.Worker.{WorkerState}

pub first_joined : (w : WorkerState) (seat : SeatView) → seat ≡ w.seat → IsJoined (w ∷ []) seat
first_joined w seat same = record {
  apart = ((λ n k mine. refl), tt);
  held = λ n k. let e = ap (λ (s : SeatView). times n k s.held) same in omega arith;
  pasts = λ one.
      ap (λ (s : SeatView). s.unlogged.past ++ past_of s.log s.unlogged ∷ []) same
      ∙ λ c. one.0 c ++ past_of w.seat.log w.seat.unlogged ∷ [];
}

pub next_joined : (w : WorkerState) (done : List WorkerState) (seat after : SeatView)
    → IsJoined done seat → after.held ≡ seat.held ++ w.seat.held → after.log ≡ seat.log
    → after.unlogged ≡ one_other (joined seat.unlogged w.seat.log w.seat.unlogged)
    → IsOnce after.held → IsJoined (w ∷ done) after
next_joined w done seat after j held log others once = record {
  apart = (
    (λ n k mine.
        let o = once n k in
        let h = ap (times n k) held in
        let t = times_append n k seat.held w.seat.held in
        let d = j.held n k in
        omega arith),
    j.apart,
  );
  held = λ n k.
      let h = ap (times n k) held in
      let t = times_append n k seat.held w.seat.held in
      let d = j.held n k in
      omega arith;
  pasts = λ one. (λ c. (others c).past ++ past_of (log c) (others c) ∷ [])
      ∙ (λ c. ((past_of w.seat.log w.seat.unlogged ∷ one.0 c) ++ seat.unlogged.past)
      ++ past_of seat.log seat.unlogged ∷ [])
      ∙ λ c. past_of w.seat.log w.seat.unlogged ∷ j.pasts one.1 c;
}

-- one worker fewer is left, and one more was joined
pub moved_on : (all old new done : List WorkerState) (o : Option WorkerState) (w : WorkerState)
    → old ≡ new ++ option_to_list o → o ≡ Some w → all ≡ old ++ done → all ≡ new ++ w ∷ done
moved_on all old new done o w is some so_far =
    so_far ∙ ap (λ ws. ws ++ done) (is ∙ ap (λ x. new ++ option_to_list x) some)
    ∙ append_assoc new (w ∷ []) done

-- what a Vec has after it was lent as a slice, of which the length stays
pub lent_back : (n : ℕ) (xs ys : List WorkerState) → length xs ≡ n → take n (xs ++ ys) ≡ xs
lent_back n xs ys long = ap (λ (k : ℕ). take k (xs ++ ys)) (sym long) ∙ take-append_seam xs ys
