-- The orders that may serve, pushed one by one.
use Rattle.std.proofs.Common.{◌≡◌, ℕ, ◌+◌, ◌<◌, Bool, true, false, List, [], ◌∷◌, ◌++◌, length}
use Rattle.std.proofs.Common.{get_or, drop, drop-cons, filter, add-one, append_assoc}
use Rattle.std.proofs.Common.{length-append, refl, ap, sym, ◌∙◌, arith, inl, inr, if◌then◌else◌}
use Rattle.std.proofs.lemmas.Bool.{cases_Bool}
use Rattle.numa_space.proofs.ListSizes.{filter-short}
use Rattle.numa_blocks.specs.Blocks.{large_orders}

-- the next number is pushed where it passes
module _ (p : ℕ → Bool) (order : List ℕ) (k : ℕ) (within : k < length order) where
  abbrev rest : List ℕ
  rest = filter p (drop (k + 1) order)

  next : drop k order ≡ get_or order k 0 ∷ drop (k + 1) order
  next = rw (add-one, drop-cons order k 0 within) refl

  passed : p (get_or order k 0) ≡ true → filter p (drop k order) ≡ get_or order k 0 ∷ rest
  passed t = ap (filter p) next ∙ by_test t
    where
      by_test : p (get_or order k 0) ≡ true
          → filter p (get_or order k 0 ∷ drop (k + 1) order) ≡ get_or order k 0 ∷ rest
      by_test t = rw t refl

  failed : p (get_or order k 0) ≡ false → filter p (drop k order) ≡ rest
  failed f = ap (filter p) next ∙ by_test f
    where
      by_test : p (get_or order k 0) ≡ false
          → filter p (get_or order k 0 ∷ drop (k + 1) order) ≡ rest
      by_test f = rw f refl

  pub pushed : (items new all : List ℕ) (wanted : Bool) → wanted ≡ p (get_or order k 0)
      → new ≡ (if wanted then items ++ get_or order k 0 ∷ [] else items)
      → items ++ filter p (drop k order) ≡ all → new ++ filter p (drop (k + 1) order) ≡ all
  pushed items new all wanted tells is whole =
      let added : Bool → List ℕ = λ w. if w then items ++ get_or order k 0 ∷ [] else items in
      elim (cases_Bool wanted) [
        | inl t ↦
            ap (λ xs. xs ++ rest) (is ∙ ap added t)
            ∙ append_assoc items (get_or order k 0 ∷ []) rest
            ∙ ap (λ xs. items ++ xs) (sym (passed (sym tells ∙ t)))
            ∙ whole
        | inr f ↦
            ap (λ xs. xs ++ rest) (is ∙ ap added f)
            ∙ ap (λ xs. items ++ xs) (sym (failed (sym tells ∙ f)))
            ∙ whole
      ]

-- there are at most eight
pub few : (p : ℕ → Bool) (items : List ℕ) → items ≡ filter p large_orders → length items < 9
few p items e = omega (arith, ap (length {A = ℕ}) e, filter-short p large_orders)

pub room-left : (p : ℕ → Bool) (items rest : List ℕ) → items ++ rest ≡ filter p large_orders
    → length items < 9
room-left p items rest e =
    omega (arith, ap (length {A = ℕ}) e, length-append items rest, filter-short p large_orders)
