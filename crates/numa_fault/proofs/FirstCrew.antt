-- A crew of the first seat, and of all that were split off it, has all seats.
use Rattle.std.proofs.Common.{◌≡◌, ℕ, ◌+◌, ◌<◌, List, [], ◌∷◌, ◌++◌, zero, suc, length, inl, inr}
use Rattle.std.proofs.Common.{refl, sym, ap, subst, ◌∙◌, arith, get_or, length-append}
use Rattle.std.specs.Prelude.{Result, Ok, Err, slice_index_or}
use Rattle.std.proofs.lemmas.List.{get_or-map, length-map, get_or_append_left, get_or_push}
use Rattle.numa_requests.specs.declared.placement.Placement.{Placement}
use Rattle.numa_requests.specs.declared.request.Request.{Request}
use Rattle.numa_pool.specs.declared.view.Past.{Past}
use Rattle.numa_pool.specs.declared.view.Unlogged.{Unlogged}
use Rattle.numa_pool.specs.Order.{AreAllSeats, HaveChildren, IsNamed}
use Rattle.numa_pool.specs.Seats.{SeatView}
use Rattle.numa_pool.specs.Steps.{past_of}
use Rattle.numa_fault.specs.Crew.{HaveNoPast, IsFirstCrew, Serves, ServesEach, column, pasts_by}
use Rattle.numa_fault.specs.Crew.{result_of}
use Rattle.numa_fault.specs.Fault.{Faults}
use Rattle.numa_fault.specs.Worker.{Parts, WorkerState, parts_of}
use Rattle.numa_fault.specs.declared.answer.Answer.{Answer}
use Rattle.numa_fault.specs.declared.refusal.FaultRefusal.{FaultRefusal}
use Rattle.numa_fault.specs.declared.refusal.FaultRefusal.TheVariants.{NoView, BadCpu, Unmapped}
use Rattle.numa_fault.specs.declared.refusal.FaultRefusal.TheVariants.{Exhausted}

-- ---- what faults leave

module _ (frames : List ℕ) where
  fault_unlogged : (request : Request) (before after : Parts)
      (answer : Result Placement FaultRefusal) → Faults frames request before after answer
      → after.seat.unlogged ≡ before.seat.unlogged
  fault_unlogged request before after (Ok p) faults = faults.1.walks.no_other
  fault_unlogged request before after (Err NoView) faults =
      ap (λ (w : Parts). w.seat.unlogged) faults
  fault_unlogged request before after (Err BadCpu) faults =
      ap (λ (v : SeatView). v.unlogged) faults.1.1
  fault_unlogged request before after (Err (Unmapped version)) faults =
      ap (λ (v : SeatView). v.unlogged) faults.1.2
  fault_unlogged request before after (Err (Exhausted version)) faults = faults.1.walks.no_other

  serves_unlogged : (requests : List Request) (before after : Parts) (answers : List Answer)
      → Serves frames requests before after answers
      → after.seat.unlogged ≡ before.seat.unlogged
  serves_unlogged [] before after [] done = ap (λ (w : Parts). w.seat.unlogged) done
  serves_unlogged [] before after (a ∷ answers) done = absurd done
  serves_unlogged (r ∷ requests) before after [] done = absurd done
  serves_unlogged (r ∷ requests) before after (a ∷ answers) done =
      serves_unlogged requests done.0 after answers done.2
      ∙ fault_unlogged r before done.0 (result_of a) done.1

-- ---- lists

no_past_of : (ws : List WorkerState) → ((w : ℕ) (d : WorkerState) → w < length ws
    → (slice_index_or ws w d).seat.unlogged.past ≡ []) → HaveNoPast ws
no_past_of [] none = tt
no_past_of (x ∷ xs) none =
    (none zero x (omega arith), no_past_of xs (λ w d inside. none (suc w) d (omega arith)))

named_at : (name : List ℕ) (ps : List Past) (i : ℕ) (d : Past) → i < length ps
    → (get_or ps i d).name ≡ name → IsNamed name ps
named_at name [] i d inside is = absurd (omega arith)
named_at name (p ∷ ps) zero d inside is = inl is
named_at name (p ∷ ps) (suc i) d inside is = inr (named_at name ps i d (omega arith) is)

no_children : (all ps : List Past) → ((i : ℕ) (d : Past) → i < length ps
    → (get_or ps i d).splits ≡ 0) → HaveChildren all ps
no_children all [] none = tt
no_children all (p ∷ ps) none = (
  (λ i low. let z : p.splits ≡ 0 = none zero p (omega arith) in absurd (omega arith)),
  no_children all ps (λ i d inside. none (suc i) d (omega arith)),
)

module _ (frames : List ℕ) (requests : List Request) (before after : List WorkerState)
    (answers : List Answer) (crew : IsFirstCrew before) (many : length after ≡ length before)
    (served : ServesEach frames requests before after answers) where
  its_unlogged : (w : ℕ) (d : WorkerState) → w < length before
      → (slice_index_or after w d).seat.unlogged ≡ (slice_index_or before w d).seat.unlogged
  its_unlogged w d inside = serves_unlogged frames (column (length before) w requests)
      (parts_of (slice_index_or before w d)) (parts_of (slice_index_or after w d))
      (column (length before) w answers) (served w d inside)

  pub have_no_past : HaveNoPast after
  have_no_past = no_past_of after (λ w d inside.
      ap (λ (u : Unlogged). u.past) (its_unlogged w d (omega arith))
      ∙ crew.past w d (omega arith))

  module _ (its : Past) (others : List Past) (pasts : others ++ its ∷ [] ≡ pasts_by after) where
    long : length others + 1 ≡ length before
    long = sym (length-append others (its ∷ []))
        ∙ ap length pasts ∙ length-map after (λ
        (w : WorkerState). past_of w.seat.log w.seat.unlogged) ∙ many

    -- what the worker did at this place
    at_place : (w : ℕ) (d : WorkerState) (e : Past) → w < length before
        → get_or (others ++ its ∷ []) w e
        ≡ past_of (slice_index_or after w d).seat.log (slice_index_or before w d).seat.unlogged
    at_place w d e inside =
        ap (λ ps. get_or ps w e) pasts
        ∙ get_or-map (λ (v : WorkerState). past_of v.seat.log v.seat.unlogged) after w d e
        (omega arith)
        ∙ ap (λ (u : Unlogged). past_of (slice_index_or after w d).seat.log u)
        (its_unlogged w d inside)

    last_is : (d : WorkerState) → its ≡ past_of (slice_index_or after (length others) d).seat.log
        (slice_index_or before (length others) d).seat.unlogged
    last_is d = sym (get_or_push others its its (length others) refl)
        ∙ at_place (length others) d its (let l = long in omega arith)

    other_is : (i : ℕ) (d : WorkerState) (e : Past) → i < length others
        → get_or others i e ≡ past_of (slice_index_or after i d).seat.log
        (slice_index_or before i d).seat.unlogged
    other_is i d e inside = sym (get_or_append_left others (its ∷ []) e i inside)
        ∙ at_place i d e (let l = long in omega arith)

    all_with : (ws : List WorkerState) → before ≡ ws → AreAllSeats (its ∷ others)
    all_with [] is = let z : length before ≡ 0 = ap length is in let l = long in
        absurd (omega arith)
    all_with (d ∷ ws) is =
        let l = long in
        let root = crew.first (length others) d (omega arith) in
        let its_is = last_is d in (
          inl (ap (λ (p : Past). p.name) its_is ∙ root.0),
          (
            (λ i low.
                let its_splits = ap (λ (p : Past). p.splits) its_is ∙ root.1 in
                let name_is : its.name ≡ [] = ap (λ (p : Past). p.name) its_is ∙ root.0 in
                subst (λ (n : List ℕ). IsNamed (i ∷ n) (its ∷ others)) (sym name_is)
                (inr (named_at (i ∷ []) others i its (omega arith)
                (ap (λ (p : Past). p.name) (other_is i d its (omega arith))
                ∙ (crew.others i d (omega arith)).0)))),
            no_children (its ∷ others) others (λ i e inside.
                ap (λ (p : Past). p.splits) (other_is i d e inside)
                ∙ (crew.others i d (omega arith)).1),
          ),
        )

    pub all_seats : AreAllSeats (its ∷ others)
    all_seats = all_with before refl
