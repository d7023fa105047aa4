-- Numbers below which a node's frames are owned, after an owner is written.
use Rattle.std.proofs.Common.{zero, suc, ◌≡◌, ◌≢◌, ℕ, ◌+◌, ◌<◌, ◌≤◌, ◌==◌, ◌⊎◌, inl, inr, Bool}
use Rattle.std.proofs.Common.{true, false, Option, Some, None, is_some, List, [], ◌∷◌, length, refl}
use Rattle.std.proofs.Common.{sym, ap, subst, ◌∙◌, arith, slice_index, slice_set, if◌then◌else◌}
use Rattle.std.proofs.lemmas.Bool.{eq-eqb}
use Rattle.std.proofs.lemmas.Bool.Decides.{eqb_tells}
use Rattle.std.proofs.lemmas.List.{get_or-set_same, get_or-set_other}
use Rattle.numa_machine.specs.declared.frame.Frame.{Frame}
use Rattle.numa_core.specs.World.{is_frame}
use Rattle.numa_core.specs.Steps.{put_frame}
use Rattle.numa_core.specs.Standing.{owner_at, place_in}
use Rattle.numa_core.specs.Hints.{AreLowest, IsLow}
use Rattle.numa_core.proofs.Answered.{one_frame}

length-set : (xs : List ℕ) (i x : ℕ) → length (slice_set xs i x) ≡ length xs
length-set [] i x = refl
length-set (y ∷ ys) zero x = refl
length-set (y ∷ ys) (suc i) x = ap (λ n. suc n) (length-set ys i x)

-- what was owned is owned once a frame has an owner
owned-put : (b : Bool) (v : ℕ) (o : Option ℕ) → is_some o ≡ true → is_some (if b then Some v else o)
    ≡ true
owned-put true v o h = refl
owned-put false v o h = h

-- a frame becomes owned
pub taken-put : (frames : List ℕ) (old new : List (Option ℕ)) (taken : List ℕ) (frame : Frame)
    (v : ℕ)
    → ((n k : ℕ) → owner_at new (place_in frames n k)
    ≡ put_frame (λ n k. owner_at old (place_in frames n k)) frame (Some v) n k)
    → AreLowest frames old taken → AreLowest frames new taken
taken-put frames old new taken frame v each are = record {
  as_long = are.as_long;
  owned = λ n k low fits. ap is_some (each n k) ∙ owned-put (is_frame frame n k) v
      (owner_at old (place_in frames n k)) (are.owned n k low fits);
}

-- the number of its node goes up to the frame, where each lower frame is owned
pub taken-raise : (frames : List ℕ) (owners : List (Option ℕ)) (taken : List ℕ) (node number : ℕ)
    → ((k : ℕ) → k < number → is_some (owner_at owners (place_in frames node k)) ≡ true)
    → node < length taken
    → AreLowest frames owners taken → AreLowest frames owners (slice_set taken node number)
taken-raise frames owners taken node number below within are = record {
  as_long = length-set taken node number ∙ are.as_long;
  owned = λ n k low fits. go n k low fits (eqb_tells n node);
}
  where
    go : (n k : ℕ) → k < slice_index (slice_set taken node number) n → k < slice_index frames n
        → ((n == node ≡ true) × (n ≡ node)) ⊎ ((n == node ≡ false) × (n ≢ node))
        → is_some (owner_at owners (place_in frames n k)) ≡ true
    go n k low fits (inl e) = subst (λ m. is_some (owner_at owners (place_in frames m k)) ≡ true)
        (sym e.1)
        (below k
        (subst (λ x. k < x) (ap (λ m. slice_index (slice_set taken node number) m) e.1
        ∙ get_or-set_same taken node number 0 within) low))
    go n k low fits (inr e) =
        are.owned n k (subst (λ x. k < x) (get_or-set_other taken node n number 0 e.1) low) fits

-- the frame that was taken is owned, and so is each lower one of its node
pub below-put : (frames : List ℕ) (old new : List (Option ℕ)) (frame : Frame) (v : ℕ)
    → ((n k : ℕ) → owner_at new (place_in frames n k)
    ≡ put_frame (λ n k. owner_at old (place_in frames n k)) frame (Some v) n k)
    → IsLow frames old frame → (k : ℕ) → k < frame.number + 1
    → is_some (owner_at new (place_in frames frame.node k)) ≡ true
below-put frames old new frame v each low k less = ap is_some (each frame.node k)
    ∙ go (eqb_tells k frame.number)
  where
    go : ((k == frame.number ≡ true) × (k ≡ frame.number))
        ⊎ ((k == frame.number ≡ false) × (k ≢ frame.number))
        → is_some (put_frame (λ n k. owner_at old (place_in frames n k)) frame (Some v) frame.node
        k) ≡ true
    go (inl e) = rw (eq-eqb frame.node frame.node refl, e.0) refl
    go (inr e) = owned-put (is_frame frame frame.node k) v
        (owner_at old (place_in frames frame.node k))
        (low.below k (let ne : k ≢ frame.number = e.1 in omega arith))

-- a frame is given back, and its node's number goes down to it
pub taken-lower : (frames : List ℕ) (old new : List (Option ℕ)) (taken : List ℕ) (frame : Frame)
    (number : ℕ)
    → ((n k : ℕ) → owner_at new (place_in frames n k)
    ≡ put_frame (λ n k. owner_at old (place_in frames n k)) frame None n k)
    → frame.node < length taken → number ≤ slice_index taken frame.node → number ≤ frame.number
    → AreLowest frames old taken → AreLowest frames new (slice_set taken frame.node number)
taken-lower frames old new taken frame number each within less low are = record {
  as_long = length-set taken frame.node number ∙ are.as_long;
  owned = λ n k under fits. ap is_some (each n k) ∙ go n k under fits (eqb_tells n frame.node)
      (is_frame frame n k) refl;
}
  where
    go : (n k : ℕ) → k < slice_index (slice_set taken frame.node number) n
        → k < slice_index frames n → ((n == frame.node ≡ true) × (n ≡ frame.node))
        ⊎ ((n == frame.node ≡ false) × (n ≢ frame.node)) → (b : Bool) → is_frame frame n k ≡ b
        → is_some (if b then None else owner_at old (place_in frames n k)) ≡ true
    go n k under fits (inl e) true is =
        let same = one_frame frame n k is in
        let short : k < number =
        subst (λ x. k < x) (ap (λ m. slice_index (slice_set taken frame.node number) m) e.1
        ∙ get_or-set_same taken frame.node number 0 within) under in
        absurd (let at : k ≡ frame.number = same.1 in omega arith)
    go n k under fits (inl e) false is =
        let short : k < number =
        subst (λ x. k < x) (ap (λ m. slice_index (slice_set taken frame.node number) m) e.1
        ∙ get_or-set_same taken frame.node number 0 within) under in
        are.owned n k (subst (λ m. k < slice_index taken m) (sym e.1) (omega arith)) fits
    go n k under fits (inr e) true is = absurd (e.1 (one_frame frame n k is).0)
    go n k under fits (inr e) false is =
        are.owned n k (subst (λ x. k < x) (get_or-set_other taken frame.node n number 0 e.1) under)
        fits
