-- The lesser and the greater of two vectors lane by lane, and what nodes a block can't hold.
use Rattle.std.proofs.Common.{◌≡◌, ◌≢◌, ℕ, zero, suc, ◌+◌, ◌-◌, ◌<◌, ◌≤◌, List, [], ◌∷◌, length}
use Rattle.std.proofs.Common.{get_or, cond, ltb, subst, refl, arith, inl, inr}
use Rattle.std.specs.Simd.Lanes.{sel_l, zip2}
use Rattle.std.proofs.lemmas.Bool.{cases_lt}
use Rattle.std.proofs.lemmas.Bool.Decides.{nat_tests}
use Rattle.numa_lanes.specs.Spans.{node_count}

lesser_of : (x y : ℕ) → (cond (ltb x y) x y ≤ x) × (cond (ltb x y) x y ≤ y)
lesser_of x y = (grind (arith, nat_tests), grind (arith, nat_tests))

greater_of : (x y : ℕ) → (x ≤ cond (ltb x y) y x) × (y ≤ cond (ltb x y) y x)
greater_of x y = (grind (arith, nat_tests), grind (arith, nat_tests))

-- the lesser lanes of two vectors are at most either's
pub lesser_lanes : (xs ys : List ℕ) (j : ℕ) → length xs ≡ length ys → j < length xs
    → (get_or (sel_l (zip2 ltb xs ys) xs ys) j 0 ≤ get_or xs j 0)
    × (get_or (sel_l (zip2 ltb xs ys) xs ys) j 0 ≤ get_or ys j 0)
lesser_lanes [] ys j same lt = absurd (omega arith)
lesser_lanes (x ∷ xs) [] j same lt = absurd (omega arith)
lesser_lanes (x ∷ xs) (y ∷ ys) zero same lt = lesser_of x y
lesser_lanes (x ∷ xs) (y ∷ ys) (suc j) same lt = lesser_lanes xs ys j (omega arith) (omega arith)

-- the greater lanes of two vectors are at least either's
pub greater_lanes : (xs ys : List ℕ) (j : ℕ) → length xs ≡ length ys → j < length xs
    → (get_or xs j 0 ≤ get_or (sel_l (zip2 ltb xs ys) ys xs) j 0)
    × (get_or ys j 0 ≤ get_or (sel_l (zip2 ltb xs ys) ys xs) j 0)
greater_lanes [] ys j same lt = absurd (omega arith)
greater_lanes (x ∷ xs) [] j same lt = absurd (omega arith)
greater_lanes (x ∷ xs) (y ∷ ys) zero same lt = greater_of x y
greater_lanes (x ∷ xs) (y ∷ ys) (suc j) same lt = greater_lanes xs ys j (omega arith) (omega arith)

-- each entry before `at` is at or above some lane, and then each before at + 32
pub more_above : (block old new : List ℕ) (at k : ℕ)
    → ((i : ℕ) → i < at → (j : ℕ) × (j < 32) × (get_or old j 0 ≤ get_or block i 0))
    → ((j : ℕ) → j < 32 → get_or new j 0 ≤ get_or old j 0)
    → ((j : ℕ) → j < 32 → get_or new j 0 ≤ get_or block (at + j) 0) → k < at + 32 → (j : ℕ)
    × (j < 32) × (get_or new j 0 ≤ get_or block k 0)
more_above block old new at k before kept here lt =
    elim (cases_lt k at) [
      | inl h ↦ let was = before k h in (was.0, was.1, omega (arith, kept was.0 was.1, was.2))
      | inr h ↦
          let j : ℕ = k - at in
          let e : at + j ≡ k = omega arith in
          let small : j < 32 = omega arith in
          (j, small, subst (λ i. get_or new j 0 ≤ get_or block i 0) e (here j small))
    ]

-- each entry before `at` is at or below some lane, and then each before at + 32
pub more_below : (block old new : List ℕ) (at k : ℕ)
    → ((i : ℕ) → i < at → (j : ℕ) × (j < 32) × (get_or block i 0 ≤ get_or old j 0))
    → ((j : ℕ) → j < 32 → get_or old j 0 ≤ get_or new j 0)
    → ((j : ℕ) → j < 32 → get_or block (at + j) 0 ≤ get_or new j 0) → k < at + 32 → (j : ℕ)
    × (j < 32) × (get_or block k 0 ≤ get_or new j 0)
more_below block old new at k before kept here lt =
    elim (cases_lt k at) [
      | inl h ↦ let was = before k h in (was.0, was.1, omega (arith, kept was.0 was.1, was.2))
      | inr h ↦
          let j : ℕ = k - at in
          let e : at + j ≡ k = omega arith in
          let small : j < 32 = omega arith in
          (j, small, subst (λ i. get_or block i 0 ≤ get_or new j 0) e (here j small))
    ]

-- no page is counted on a node that no page is on
pub counted_nowhere : (node : ℕ) (span : List ℕ)
    → ((k : ℕ) → k < length span → get_or span k 0 ≢ node) → node_count node span ≡ 0
counted_nowhere node [] h = refl
counted_nowhere node (x ∷ xs) h =
    let here : x ≢ node = h 0 (omega arith) in
    let rest : node_count node xs ≡ 0 = counted_nowhere node xs (λ k lt. h (suc k) (omega arith)) in
    grind (arith, nat_tests)
