-- Where all seats are known that there ever were, no other seat made a step.
use Rattle.std.proofs.Common.{◌≡◌, ◌⊎◌, ℕ, ◌<◌, ◌≤◌, List, [], ◌∷◌, length, inl, inr}
use Rattle.std.proofs.Common.{refl, sym, ap, ◌∙◌, subst, arith}
use native.Mathlib.Decide.{ℕ_discrete, dec_le}
use Rattle.numa_machine.specs.declared.frame.Frame.{Frame}
use Rattle.numa_pool.specs.declared.view.Past.{Past}
use Rattle.numa_pool.specs.Frames.{IsOnce, times}
use Rattle.numa_pool.specs.Order.{Deeds, own, pasts_of, IsAbsent, IsBorn, AreBelow, IsLedTo}
use Rattle.numa_pool.specs.Order.{IsNamed}
use Rattle.numa_pool.specs.Order.{HaveChildren, AreAllSeats, IsByThese}
use Rattle.numa_pool.specs.Seats.{Closes}
use Rattle.std.specs.Prelude.{Bool}

abbrev IsSeat : ℕ → List ℕ → Type 0
IsSeat j [] = ⊥
IsSeat j (k ∷ ks) = (j ≡ k) ⊎ IsSeat j ks

is_or_absent : (j : ℕ) (ks : List ℕ) → IsSeat j ks ⊎ IsAbsent j ks
is_or_absent j [] = inr tt
is_or_absent j (k ∷ ks) = by (ℕ_discrete j k) (is_or_absent j ks)
  where
    by : Dec (j ≡ k) → IsSeat j ks ⊎ IsAbsent j ks → IsSeat j (k ∷ ks) ⊎ IsAbsent j (k ∷ ks)
    by (yes same) rest = inl (inl same)
    by (no apart) (inl there) = inl (inr there)
    by (no apart) (inr absent) = inr (apart, absent)

not_both : (j : ℕ) (ks : List ℕ) → IsSeat j ks → IsAbsent j ks → ⊥
not_both j [] is absent = is
not_both j (k ∷ ks) (inl same) absent = absent.0 same
not_both j (k ∷ ks) (inr there) absent = not_both j ks there absent.1

below_all : (count : ℕ) (ks : List ℕ) → AreBelow count ks → (k : ℕ) → IsSeat k ks → k < count
below_all count [] below k is = absurd is
below_all count (j ∷ js) below k (inl same) = let l = below.0 in omega arith
below_all count (j ∷ js) below k (inr there) = below_all count js below.1 k there

module _ (deeds : Deeds) where
  abbrev Called : List ℕ → List ℕ → Type 0
  Called name ks = (k : ℕ) × IsSeat k ks × (deeds.name k ≡ name)

  named_seat : (name : List ℕ) (ks : List ℕ) → IsNamed name (pasts_of deeds ks) → Called name ks
  named_seat name [] is = absurd is
  named_seat name (k ∷ ks) (inl same) = (k, inl refl, same)
  named_seat name (k ∷ ks) (inr there) = let rest = named_seat name ks there in
      (rest.0, inr rest.1, rest.2)

  child_of : (all : List Past) (ks : List ℕ) → HaveChildren all (pasts_of deeds ks) → (k : ℕ)
      → IsSeat k ks → (i : ℕ) → i < deeds.splits k → IsNamed (i ∷ deeds.name k) all
  child_of all [] children k is i low = absurd is
  child_of all (j ∷ js) children k (inl same) i low =
      subst (λ (n : ℕ). IsNamed (i ∷ deeds.name n) all) (sym same)
      (children.0 i (subst (λ (n : ℕ). i < deeds.splits n) same low))
  child_of all (j ∷ js) children k (inr there) i low = child_of all js children.1 k there i low

module _ (frames : List ℕ) (pasts : List Past) (words : List ℕ) (order : IsLedTo frames pasts words)
    (whole : AreAllSeats pasts) where
  all_of : AreAllSeats (pasts_of order.deeds order.seats)
  all_of = subst (λ (ps : List Past). AreAllSeats ps) order.pasts_are whole

  one_seat : (j : ℕ) → j < order.count → Called order.deeds (order.deeds.name j) order.seats
      → IsSeat j order.seats
  one_seat j low h =
      let same : j ≡ h.0 = order.names.unique j h.0 low
      (below_all order.count order.seats order.inside h.0 h.1) (sym h.2) in
      subst (λ (k : ℕ). IsSeat k order.seats) (sym same) h.1

  every : (name : List ℕ) (j : ℕ) → order.deeds.name j ≡ name → j < order.count
      → IsSeat j order.seats
  every [] j is low = one_seat j low
      (subst (λ (n : List ℕ). Called order.deeds n order.seats) (sym is)
      (named_seat order.deeds [] order.seats all_of.0))
  every (i ∷ name) j is low =
      by (λ k named k_low. every name k named k_low) (order.names.born j low)
    where
      by : ((k : ℕ) → order.deeds.name k ≡ name → k < order.count → IsSeat k order.seats)
          → IsBorn order.deeds order.count j → IsSeat j order.seats
      by parents (inl root) =
          let n : length (i ∷ name) ≡ 0 = ap length (sym is ∙ root) in absurd (omega arith)
      by parents (inr h) =
          let eq = sym is ∙ h.4 in
          let above : order.deeds.name h.0 ≡ name = cc in
          let parent = parents h.0 above h.2 in
          one_seat j low (subst (λ (n : List ℕ). Called order.deeds n order.seats) (sym h.4)
          (named_seat order.deeds (h.1 ∷ order.deeds.name h.0) order.seats
          (child_of order.deeds (pasts_of order.deeds order.seats) order.seats all_of.1 h.0 parent
          h.1 h.3)))

  pub by_these : IsByThese order.seats order.deeds.made
  by_these j absent = by (dec_le order.count j)
    where
      by : Dec (order.count ≤ j) → own j order.deeds.made ≡ []
      by (yes high) = (order.names.none_else j high).0
      by (no d) = absurd (not_both j order.seats
          (every (order.deeds.name j) j refl (omega arith)) absent)

-- at the end no seat holds a frame twice
pub ends_once : (frames : List ℕ) (held : List Frame) (taken : List ℕ) (alone : Bool)
    → Closes frames held taken alone → IsOnce held
ends_once frames held taken alone closes n k =
    let last = closes.1 in
    subst (λ (fs : List Frame). times n k fs ≤ 1) last.5
    (last.3.held_once n k last.1 last.2 last.4)
