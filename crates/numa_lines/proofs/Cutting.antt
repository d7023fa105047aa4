-- Where a line feed cuts the bytes that are left.
use Rattle.std.specs.Prelude.{◌≡◌, ℕ, ◌+◌, ◌-◌, ◌==◌, ◌<◌, ◌++◌, true, List, [], ◌∷◌, length, take}
use Rattle.std.specs.Prelude.{drop, slice_index}
use Prim.Native.Nat.{suc, zero}
use Rattle.std.proofs.Common.{sym, ◌∙◌, ap, arith, append_assoc}
use Rattle.std.proofs.lemmas.Bool.Decides.{nat_tests}
use Rattle.std.proofs.lemmas.List.{take_rest}

around : (n : ℕ) (rest : List ℕ) → n < length rest → slice_index rest n ≡ 10 → rest ≡ take n rest
    ++ 10 ∷ drop (suc n) rest
around n [] lt is = cc
around zero (b ∷ rest) lt is = ap (λ x. x ∷ rest) is
around (suc n) (b ∷ rest) lt is = ap (λ l. b ∷ l) (around n rest (omega (arith, lt)) is)

-- what was taken, the line up to its line feed, and what is left after it
pub cut_at : (n : ℕ) (bytes front rest : List ℕ) → n < length rest → (slice_index rest n == 10)
    ≡ true → bytes ≡ front ++ rest →
    bytes ≡ (front ++ (take n rest ++ 10 ∷ [])) ++ take (length rest - (n + 1)) (drop (n + 1) rest)
cut_at n bytes front rest lt is all =
    let at : slice_index rest n ≡ 10 = grind (arith, nat_tests) in
    let later : List ℕ = drop (n + 1) rest in
    let next : suc n ≡ n + 1 = omega arith in
    all ∙ ap (λ l. front ++ l) (around n rest lt at ∙ ap (λ k. take n rest ++ 10 ∷ drop k rest) next
    ∙ sym (append_assoc (take n rest) (10 ∷ []) later))
    ∙ sym (append_assoc front (take n rest ++ 10 ∷ []) later)
    ∙ ap (λ l. (front ++ (take n rest ++ 10 ∷ [])) ++ l) (sym (take_rest rest (n + 1)))
