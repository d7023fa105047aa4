-- No frame is placed twice.
use Rattle.std.proofs.Common.{◌≡◌, ℕ, zero, suc, ◌+◌, ◌*◌, ◌/◌, ◌%◌, ◌<◌, ◌≤◌, List, [], ◌∷◌}
use Rattle.std.proofs.Common.{length, refl, sym, ap, subst, ◌∙◌, arith, true, eq-eqb}
use Rattle.std.specs.Prelude.{Some, Result, Ok, Err, slice_get, slice_index_or, ◌==◌, ◌&&◌, Bool}
use Rattle.std.proofs.Math.Nat.{div-add-mod, lt_of_mul-lt-mul_left}
use native.Mathlib.Decide.{ℕ_discrete}
use Rattle.numa_machine.specs.declared.frame.Frame.{Frame}
use Rattle.numa_requests.specs.declared.placement.Placement.{Placement}
use Rattle.numa_requests.specs.declared.request.Request.{Request}
use Rattle.numa_pool.specs.Frames.{is_frame, one_if, times}
use Rattle.numa_fault.specs.Crew.{AreApart, Serves, ServesEach, column, held_by, result_of}
use Rattle.numa_fault.specs.Fault.{Faults}
use Rattle.numa_fault.specs.Worker.{Parts, WorkerState, parts_of}
use Rattle.numa_fault.specs.declared.answer.Answer.{Answer}
use Rattle.numa_fault.specs.declared.answer.Answer.TheVariants.{Placed}
use Rattle.numa_fault.specs.declared.refusal.FaultRefusal.{FaultRefusal}
use Rattle.numa_fault.specs.declared.refusal.FaultRefusal.TheVariants.{NoView, BadCpu, Unmapped}
use Rattle.numa_fault.specs.declared.refusal.FaultRefusal.TheVariants.{Exhausted}
use Rattle.numa_fault.proofs.Columns.{column-at}

-- how often the worker's seat holds the frame
abbrev held : Parts → Frame → ℕ
held w f = times f.node f.number w.seat.held

itself : (f : Frame) → one_if (is_frame f f.node f.number) ≡ 1
itself f =
    ap one_if (both (f.node == f.node) (f.number == f.number) (eq-eqb f.node f.node refl)
    (eq-eqb f.number f.number refl))
  where
    both : (a b : Bool) → a ≡ true → b ≡ true → (a && b) ≡ true
    both a b p q = rw (p, q) refl

module _ (frames : List ℕ) where
  -- a fault gives nothing up
  fault-keeps : (request : Request) (before after : Parts) (answer : Result Placement FaultRefusal)
      → Faults frames request before after answer → (f : Frame) → held before f ≤ held after f
  fault-keeps request before after (Ok p) faults f = let gains =
      ap (times f.node f.number) faults.1.walks.held in omega arith
  fault-keeps request before after (Err NoView) faults f = let same =
      ap (λ (w : Parts). held w f) faults in omega arith
  fault-keeps request before after (Err BadCpu) faults f = let same =
      ap (λ s. held (record before { seat = s }) f) faults.1.1 in omega arith
  fault-keeps request before after (Err (Unmapped version)) faults f = let same =
      ap (λ s. held (record before { seat = s }) f) faults.1.2 in omega arith
  fault-keeps request before after (Err (Exhausted version)) faults f = let same =
      ap (times f.node f.number) faults.1.walks.held in omega arith

  serves-keep : (requests : List Request) (before after : Parts) (answers : List Answer)
      → Serves frames requests before after answers → (f : Frame) → held before f ≤ held after f
  serves-keep [] before after [] done f = let same = ap (λ (w : Parts). held w f) done in
      omega arith
  serves-keep [] before after (a ∷ answers) done f = absurd done
  serves-keep (r ∷ requests) before after [] done f = absurd done
  serves-keep (r ∷ requests) before after (a ∷ answers) done f =
      let one = fault-keeps r before done.0 (result_of a) done.1 f in
      let rest = serves-keep requests done.0 after answers done.2 f in
      omega arith

  -- a placed frame is held
  placed-held : (request : Request) (before after : Parts) (p : Placement)
      → Faults frames request before after (Ok p) → 0 < held after p.frame
  placed-held request before after p faults =
      let gains = ap (times p.frame.node p.frame.number) faults.1.walks.held in let own =
      itself p.frame in omega arith

  pub serves-held : (requests : List Request) (before after : Parts) (answers : List Answer)
      → Serves frames requests before after answers
      → (j : ℕ) (p : Placement) → slice_get answers j ≡ Some (Placed p) → 0 < held after p.frame
  serves-held [] before after [] done j p at = absurd (cc)
  serves-held [] before after (a ∷ answers) done j p at = absurd done
  serves-held (r ∷ requests) before after [] done j p at = absurd done
  serves-held (r ∷ requests) before after (a ∷ answers) done zero p at =
      let is : a ≡ Placed p = cc in
      let own =
      placed-held r before done.0 p
      (subst (λ (b : Answer). Faults frames r before done.0 (result_of b)) is done.1) in
      let rest = serves-keep requests done.0 after answers done.2 p.frame in
      omega arith
  serves-held (r ∷ requests) before after (a ∷ answers) done (suc j) p at =
      serves-held requests done.0 after answers done.2 j p at

  -- a frame that will be placed is not held before
  serves-fresh : (requests : List Request) (before after : Parts) (answers : List Answer)
      → Serves frames requests before after answers
      → (j : ℕ) (q : Placement) → slice_get answers j ≡ Some (Placed q) → held before q.frame ≡ 0
  serves-fresh [] before after [] done j q at = absurd (cc)
  serves-fresh [] before after (a ∷ answers) done j q at = absurd done
  serves-fresh (r ∷ requests) before after [] done j q at = absurd done
  serves-fresh (r ∷ requests) before after (a ∷ answers) done zero q at =
      let is : a ≡ Placed q = cc in
      let faults = subst (λ (b : Answer). Faults frames r before done.0 (result_of b)) is done.1 in
      faults.1.fresh
  serves-fresh (r ∷ requests) before after (a ∷ answers) done (suc j) q at =
      let one = fault-keeps r before done.0 (result_of a) done.1 q.frame in
      let rest = serves-fresh requests done.0 after answers done.2 j q at in
      omega arith

  pub serves-apart : (requests : List Request) (before after : Parts) (answers : List Answer)
      → Serves frames requests before after answers
      → (i j : ℕ) (p q : Placement) → i < j → slice_get answers i ≡ Some (Placed p)
      → slice_get answers j ≡ Some (Placed q) → p.frame ≡ q.frame → ⊥
  serves-apart [] before after [] done i j p q less at later same = absurd (cc)
  serves-apart [] before after (a ∷ answers) done i j p q less at later same = absurd done
  serves-apart (r ∷ requests) before after [] done i j p q less at later same = absurd done
  serves-apart (r ∷ requests) before after (a ∷ answers) done i zero p q less at later same =
      absurd (omega arith)
  serves-apart (r ∷ requests) before after (a ∷ answers) done zero (suc j) p q less at later same =
      let is : a ≡ Placed p = cc in
      let own =
      placed-held r before done.0 p
      (subst (λ (b : Answer). Faults frames r before done.0 (result_of b)) is done.1) in
      let fresh = serves-fresh requests done.0 after answers done.2 j q later in
      let one = ap (held done.0) same in
      absurd (omega arith)
  serves-apart (r ∷ requests) before after (a ∷ answers) done (suc i) (suc j) p q less at later
      same =
      serves-apart requests done.0 after answers done.2 i j p q (omega arith) at later same

-- the answer at a place stands in the column of the place's worker
pub in-column : (count i : ℕ) (answers : List Answer) (p : Placement) → 0 < count
    → slice_get answers i ≡ Some (Placed p) → slice_get (column count (i % count) answers)
    (i / count) ≡ Some (Placed p)
in-column count i answers p some_turn at =
    let here : i % count + i / count * count ≡ i = omega arith in
    column-at count (i % count) (i / count) answers some_turn ∙ ap (slice_get answers) here ∙ at

held-here : (n k : ℕ) (ws : List WorkerState) (d : WorkerState) (w : ℕ) → w < length ws
    → times n k (slice_index_or ws w d).seat.held ≤ held_by n k ws
held-here n k [] d w inside = absurd (omega arith)
held-here n k (x ∷ xs) d zero inside = omega arith
held-here n k (x ∷ xs) d (suc w) inside =
    let rest = held-here n k xs d w (omega arith) in omega arith

-- of workers that are apart only one holds a frame
two-apart : (n k : ℕ) (ws : List WorkerState) (d : WorkerState) → AreApart ws → (w u : ℕ)
    → w < length ws → u < length ws → 0 < times n k (slice_index_or ws w d).seat.held
    → 0 < times n k (slice_index_or ws u d).seat.held → w ≡ u
two-apart n k [] d far w u in_w in_u p q = absurd (omega arith)
two-apart n k (x ∷ xs) d far zero zero in_w in_u p q = refl
two-apart n k (x ∷ xs) d far zero (suc u) in_w in_u p q =
    let rest = held-here n k xs d u (omega arith) in let none = far.0 n k p in absurd (omega arith)
two-apart n k (x ∷ xs) d far (suc w) zero in_w in_u p q =
    let rest = held-here n k xs d w (omega arith) in let none = far.0 n k q in absurd (omega arith)
two-apart n k (x ∷ xs) d far (suc w) (suc u) in_w in_u p q =
    ap suc (two-apart n k xs d far.1 w u (omega arith) (omega arith) p q)

pub crew-apart : (frames : List ℕ) (requests : List Request) (old new : List WorkerState)
    (answers : List Answer) → 0 < length old → length new ≡ length old
    → ServesEach frames requests old new answers → AreApart new
    → (i j : ℕ) (p q : Placement) → i < j
    → slice_get answers i ≡ Some (Placed p) → slice_get answers j ≡ Some (Placed q)
    → p.frame ≡ q.frame → ⊥
crew-apart frames requests old [] answers some_worker long served seats i j p q less at later same =
    absurd (omega arith)
crew-apart frames requests old (d ∷ rest) answers some_worker long served seats i j p q less at
    later same = by (ℕ_discrete (i % count) (j % count))
  where
    new : List WorkerState
    new = d ∷ rest

    count : ℕ
    count = length old

    of : (w : ℕ) → w < count
        → Serves frames (column count w requests) (parts_of (slice_index_or old w d))
        (parts_of (slice_index_or new w d)) (column count w answers)
    of w inside = served w d inside

    first : i % length old < length old
    first = omega arith

    second : j % length old < length old
    second = omega arith

    by : Dec (i % length old ≡ j % length old) → ⊥
    by (yes e) =
        let b : slice_get (column count (i % count) answers) (j / count) ≡ Some (Placed q) =
        subst (λ w. slice_get (column count w answers) (j / count) ≡ Some (Placed q)) (sym e)
        (in-column count j answers q some_worker later) in
        let order : i / count < j / count =
        lt_of_mul-lt-mul_left count (let one = div-add-mod i count in let two =
        div-add-mod j count in omega arith) in
        serves-apart frames (column count (i % count) requests)
        (parts_of (slice_index_or old (i % count) d))
        (parts_of (slice_index_or new (i % count) d)) (column count (i % count) answers)
        (of (i % count) first)
        (i / count) (j / count) p q order (in-column count i answers p some_worker at) b same
    by (no apart) =
        let one = serves-held frames (column count (i % count) requests)
        (parts_of (slice_index_or old (i % count) d))
        (parts_of (slice_index_or new (i % count) d)) (column count (i % count) answers)
        (of (i % count) first) (i / count) p (in-column count i answers p some_worker at) in
        let two = serves-held frames (column count (j % count) requests)
        (parts_of (slice_index_or old (j % count) d))
        (parts_of (slice_index_or new (j % count) d)) (column count (j % count) answers)
        (of (j % count) second) (j / count) q (in-column count j answers q some_worker later) in
        let both : 0 < times p.frame.node p.frame.number
        (slice_index_or new (j % count) d).seat.held =
        subst (λ (f : Frame). 0 < times f.node f.number
        (slice_index_or new (j % count) d).seat.held) (sym same) two in
        apart (two-apart p.frame.node p.frame.number new d seats (i % count) (j % count)
        (omega arith) (omega arith) one both)
