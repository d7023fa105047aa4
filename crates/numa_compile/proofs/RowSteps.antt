-- Rows that grow, one behind another.
use Rattle.std.proofs.Common.{◌≡◌, ℕ, ◌+◌, ◌<◌, List, [], ◌∷◌, ◌++◌, append_assoc, replicate}
use Rattle.std.proofs.Common.{map-id, All, subst, sym, ap, ◌∙◌, arith}
use Rattle.std.specs.List.{range_with_len}
use Rattle.std.proofs.lemmas.List.FromFn.{map-range_with_len_more}
use Rattle.std.proofs.lemmas.List.Elements.{All-head, All-tail}
use Rattle.numa_space.specs.Lists.{Setting}
use Rattle.numa_compile.specs.Rules.{row_from, rows_from, places_from}
use Rattle.numa_compile.specs.declared.reach.Reach.{Reach}

-- the row of the first node that is left
pub row-moved : (setting : Setting) (reach : Reach) (node : ℕ) (left rest : List ℕ)
    (old new whole : List ℕ) → left ≡ node ∷ rest → new ≡ old ++ row_from setting reach node
    → old ++ rows_from setting reach left ≡ whole → new ++ rows_from setting reach rest ≡ whole
row-moved setting reach node left rest old new whole step more all =
    ap (λ (xs : List ℕ). xs ++ rows_from setting reach rest) more
    ∙ append_assoc old (row_from setting reach node) (rows_from setting reach rest)
    ∙ sym (ap (λ (xs : List ℕ). old ++ rows_from setting reach xs) step)
    ∙ all

-- and what holds of all that are left, holds of the others
pub low-rest : (bound node : ℕ) (left rest : List ℕ) → left ≡ node ∷ rest
    → All (λ n. n < bound) left → (node < bound) × All (λ n. n < bound) rest
low-rest bound node left rest step all =
    let whole : All (λ n. n < bound) (node ∷ rest) =
    subst (λ (xs : List ℕ). All (λ n. n < bound) xs) step all in
    (All-head (λ n. n < bound) node rest whole, All-tail (λ n. n < bound) node rest whole)

-- ---- turns

-- one number more
pub range-more : (n : ℕ) → range_with_len 0 (n + 1) ≡ range_with_len 0 n ++ n ∷ []
range-more n = sym (map-id (range_with_len 0 (n + 1))) ∙ map-range_with_len_more (λ x. x) 0 n n
    (omega arith) ∙ ap (λ (xs : List ℕ). xs ++ n ∷ []) (map-id (range_with_len 0 n))

-- the turns of the first node that is left
pub turns-moved : (weight : ℕ → ℕ) (place next node turns : ℕ) (left rest : List ℕ)
    (old new whole : List ℕ) → left ≡ node ∷ rest → turns ≡ weight node → next ≡ place + 1
    → new ≡ old ++ replicate turns place → old ++ places_from place weight left ≡ whole
    → new ++ places_from next weight rest ≡ whole
turns-moved weight place next node turns left rest old new whole step is one more all =
    let part : replicate turns place ≡ replicate (weight node) place =
    ap (λ n. replicate n place) is in
    (λ i. (more i) ++ places_from (one i) weight rest)
    ∙ append_assoc old (replicate turns place) (places_from (place + 1) weight rest)
    ∙ ap (λ (xs : List ℕ). old ++ (xs ++ places_from (place + 1) weight rest)) part
    ∙ sym (ap (λ (xs : List ℕ). old ++ places_from place weight xs) step)
    ∙ all
