-- Processes in another order.
use Rattle.std.proofs.Common.{◌≡◌, ◌∙◌, ℕ, suc, ◌+◌, ◌<◌, Bool, List, []}
use Rattle.std.proofs.Common.{◌∷◌, ◌++◌, All, Some, None, ap, append_assoc, arith, drop}
use Rattle.std.proofs.Common.{eqb, get_or, inl, inr, length, refl, subst, sym, take}
use Rattle.std.proofs.lemmas.Bool.{cases_Bool}
use Rattle.std.proofs.lemmas.Iterator.Adapters.{position_from-zero}
use Rattle.std.proofs.lemmas.List.Elements.{All-append, All-cons, All-head, All-nil, All-tail}
use Rattle.std.specs.List.{position, position_from}
use Rattle.numa_moves.specs.Held.{arranged, first_of, without_first}
use Rattle.numa_moves.specs.declared.holding.Holding.{Holding}

abbrev pub is_of : ℕ → Holding → Bool
is_of process h = eqb process h.process

from-none : (hs : List Holding) (process i : ℕ) → position_from (is_of process) i hs ≡ None
    → (first_of process hs ≡ []) × (without_first process hs ≡ hs)
from-none [] process i none = (refl, refl)
from-none (h ∷ hs) process i none =
    elim (cases_Bool (eqb process h.process)) [
      | inl e ↦ absurd (apart i (rw e at none))
      | inr e ↦
          let later = from-none hs process (i + 1) (rw e at none) in
          rw e (later.0, ap (λ (l : List Holding). h ∷ l) later.1)
    ]
  where
    apart : (a : ℕ) → Some a ≡ None → ⊥
    apart a h = cc

-- the first with the number is at a place, and the others are left
pub record IsPlaceOf (hs : List Holding) (process place : ℕ) : Type 0 where
  pub inside : place < length hs
  pub first : (d : Holding) → first_of process hs ≡ get_or hs place d ∷ []
  pub left : without_first process hs ≡ take place hs ++ drop (suc place) hs

from-some : (hs : List Holding) (process i place : ℕ)
    → position_from (is_of process) i hs ≡ Some place
    → (k : ℕ) × (place ≡ i + k) × IsPlaceOf hs process k
from-some [] process i place is = absurd (cc)
from-some (h ∷ hs) process i place is =
    elim (cases_Bool (eqb process h.process)) [
      | inl e ↦
          let at : Some i ≡ Some place = rw e at is in (
            0,
            omega (arith, same i place at),
            record {
              inside = omega arith;
              first = λ d. rw e refl;
              left = rw e refl;
            },
          )
      | inr e ↦
          let later = from-some hs process (i + 1) place (rw e at is) in (
            suc later.0,
            omega (arith, later.1),
            record {
              inside = omega (arith, later.2.inside);
              first = λ d. rw e (later.2.first d);
              left = rw e (ap (λ (l : List Holding). h ∷ l) later.2.left);
            },
          )
    ]
  where
    same : (a b : ℕ) → Some a ≡ Some b → a ≡ b
    same a b h = cc

pub position-none : (hs : List Holding) (process : ℕ) → position (is_of process) hs ≡ None
    → (first_of process hs ≡ []) × (without_first process hs ≡ hs)
position-none hs process none =
    from-none hs process 0 (sym (position_from-zero (is_of process) hs) ∙ none)

pub position-some : (hs : List Holding) (process place : ℕ)
    → position (is_of process) hs ≡ Some place → IsPlaceOf hs process place
position-some hs process place some =
    let at = from-some hs process 0 place
    (sym (position_from-zero (is_of process) hs) ∙ some) in
    let here : at.0 ≡ place = omega (arith, at.1) in
    subst (λ k. IsPlaceOf hs process k) here at.2

-- ---- what holds of all

module _ (P : Holding → Type 0) where
  all-first : (process : ℕ) (hs : List Holding) → All P hs → All P (first_of process hs)
  all-first process [] all = All-nil P
  all-first process (h ∷ hs) all =
      elim (cases_Bool (eqb process h.process)) [
        | inl e ↦ rw e (All-cons P h [] (All-head P h hs all) (All-nil P))
        | inr e ↦ rw e (all-first process hs (All-tail P h hs all))
      ]

  all-left : (process : ℕ) (hs : List Holding) → All P hs → All P (without_first process hs)
  all-left process [] all = All-nil P
  all-left process (h ∷ hs) all =
      elim (cases_Bool (eqb process h.process)) [
        | inl e ↦ rw e (All-tail P h hs all)
        | inr e ↦
            rw e (All-cons P h (without_first process hs) (All-head P h hs all)
            (all-left process hs (All-tail P h hs all)))
      ]

  pub all-arranged : (order : List ℕ) (hs : List Holding) → All P hs → All P (arranged order hs)
  all-arranged [] hs all = all
  all-arranged (process ∷ order) hs all =
      All-append P (first_of process hs) (arranged order (without_first process hs))
      (all-first process hs all)
      (all-arranged order (without_first process hs) (all-left process hs all))

-- ---- one after the other

-- one more process stands behind those that are put
pub arranged-next : (ahead rest : List ℕ) (process : ℕ)
    (holdings left first more whole : List Holding) → ahead ≡ process ∷ rest
    → left ≡ without_first process holdings → more ≡ first ++ first_of process holdings
    → first ++ arranged ahead holdings ≡ whole
    → more ++ arranged rest left ≡ whole
arranged-next ahead rest process holdings left first more whole is taken put done =
    ap (λ (l : List Holding). l ++ arranged rest left) put
    ∙ ap (λ (l : List Holding). (first ++ first_of process holdings) ++ arranged rest l) taken
    ∙ append_assoc first (first_of process holdings)
    (arranged rest (without_first process holdings))
    ∙ ap (λ (o : List ℕ). first ++ arranged o holdings) (sym is) ∙ done
