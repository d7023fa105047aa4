-- The pages on a set's nodes, counted node after node.
use Rattle.std.proofs.Common.{◌≡◌, ◌<◌, ◌≤◌, ◌+◌, ◌==◌, ◌&&◌, ℕ, suc, List, [], ◌∷◌, Bool, true}
use Rattle.std.proofs.Common.{false, cond, count_by, nat_lt, get_or, length, sym, ap, ◌∙◌, refl}
use Rattle.std.proofs.Common.{arith}
use Rattle.std.proofs.lemmas.List.Recursion.{is_count_by}
use Rattle.std.proofs.lemmas.Bool.Decides.{nat_tests}
use Rattle.numa_lanes.specs.Spans.{node_count}

-- how many entries are below n and pass the test
abbrev pub passed_below : (ℕ → Bool) → ℕ → List ℕ → ℕ
passed_below test n span = count_by (λ x. nat_lt x n && test x) span

one_more : (test : ℕ → Bool) (x n : ℕ) → cond (nat_lt x (n + 1) && test x) 1 0
    ≡ cond (nat_lt x n && test x) 1 0 + cond (test n) (cond (x == n) 1 0) 0
one_more test x n = grind (arith, nat_tests)

-- `count_by`, with the test of an entry as a summand
abbrev tallied : {X : Type 0} (p : X → Bool) → List X → ℕ
tallied p [] = 0
tallied p (x ∷ xs) = cond (p x) 1 0 + tallied p xs

taken_in : (b : Bool) (n : ℕ) → cond b 1 0 + n ≡ cond b (1 + n) n
taken_in true n = refl
taken_in false n = omega arith

tallied_is : {X : Type 0} (p : X → Bool) (xs : List X) → tallied p xs ≡ count_by p xs
tallied_is p xs = is_count_by (tallied p) p refl (λ y ys. taken_in (p y) (tallied p ys)) xs

split : (t : Bool) (a a' b m m' k : ℕ) → a' ≡ a + cond t b 0 → m' ≡ m + cond t k 0
    → a' + m' ≡ (a + m) + cond t (b + k) 0
split true a a' b m m' k e f = omega (arith, e, f)
split false a a' b m m' k e f = omega (arith, e, f)

none_left : (t : Bool) → 0 ≡ 0 + cond t 0 0
none_left true = refl
none_left false = refl

tallied_more : (test : ℕ → Bool) (n : ℕ) (xs : List ℕ)
    → tallied (λ x. nat_lt x (n + 1) && test x) xs ≡ tallied (λ x. nat_lt x n && test x) xs + cond
    (test n) (tallied (λ x. x == n) xs) 0
tallied_more test n [] = none_left (test n)
tallied_more test n (x ∷ xs) = split (test n) _ _ _ _ _ _ (one_more test x n)
    (tallied_more test n xs)

-- one node more
pub passed_more : (test : ℕ → Bool) (n : ℕ) (xs : List ℕ) → passed_below test (n + 1) xs
    ≡ passed_below test n xs + cond (test n) (node_count n xs) 0
passed_more test n xs =
    sym (tallied_is (λ x. nat_lt x (n + 1) && test x) xs) ∙ tallied_more test n xs
    ∙ ap (λ m. m + cond (test n) (tallied (λ x. x == n) xs) 0)
    (tallied_is (λ x. nat_lt x n && test x) xs)
    ∙ ap (λ m. count_by (λ x. nat_lt x n && test x) xs + cond (test n) m 0)
    (tallied_is (λ x. x == n) xs)

fails_above : (test : ℕ → Bool) (x n : ℕ) → n ≤ x → cond {A = ℕ} (nat_lt x n && test x) 1 0 ≡ 0
fails_above test x n le = grind (arith, nat_tests)

tallied_none : (test : ℕ → Bool) (n : ℕ) (xs : List ℕ)
    → ((k : ℕ) → k < length xs → n ≤ get_or xs k 0) → tallied (λ x. nat_lt x n && test x) xs ≡ 0
tallied_none test n [] above = refl
tallied_none test n (x ∷ xs) above =
    let here = fails_above test x n (above 0 (omega arith)) in
    let rest : tallied (λ x. nat_lt x n && test x) xs ≡ 0 =
    tallied_none test n xs (λ k lt. above (suc k) (omega arith)) in
    omega (arith, here, rest)

-- no entry is below n
pub passed_none : (test : ℕ → Bool) (n : ℕ) (xs : List ℕ)
    → ((k : ℕ) → k < length xs → n ≤ get_or xs k 0) → 0 ≡ passed_below test n xs
passed_none test n xs above = sym (tallied_none test n xs above)
    ∙ tallied_is (λ x. nat_lt x n && test x) xs

same_where : (test : ℕ → Bool) (x n : ℕ) → x < n → cond {A = ℕ} (nat_lt x n && test x) 1 0
    ≡ cond {A = ℕ} (test x) 1 0
same_where test x n lt = grind (arith, nat_tests)

tallied_all : (test : ℕ → Bool) (n : ℕ) (xs : List ℕ)
    → ((k : ℕ) → k < length xs → get_or xs k 0 < n) → tallied (λ x. nat_lt x n && test x) xs
    ≡ tallied test xs
tallied_all test n [] small = refl
tallied_all test n (x ∷ xs) small =
    let here = same_where test x n (small 0 (omega arith)) in
    let rest : tallied (λ x. nat_lt x n && test x) xs ≡ tallied test xs =
    tallied_all test n xs (λ k lt. small (suc k) (omega arith)) in
    ap (λ m. m + tallied (λ x. nat_lt x n && test x) xs) here ∙ ap (λ m. cond (test x) 1 0 + m) rest

-- every node, where each entry is below n
pub passed_all : (test : ℕ → Bool) (n : ℕ) (xs : List ℕ)
    → ((k : ℕ) → k < length xs → get_or xs k 0 < n) → passed_below test n xs ≡ count_by test xs
passed_all test n xs small = sym (tallied_is (λ x. nat_lt x n && test x) xs)
    ∙ tallied_all test n xs small ∙ tallied_is test xs
