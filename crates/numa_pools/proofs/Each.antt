-- A number for each node.
use Rattle.std.proofs.Common.{◌≡◌, ℕ, zero, suc, ◌+◌, ◌-◌, ◌*◌, ◌<◌, ◌≤◌, true, false}
use Rattle.std.proofs.Common.{List, [], ◌∷◌, length, min, refl, sym, ap, ◌∙◌, arith, inl, inr}
use Rattle.std.specs.Prelude.{slice_index, if◌then◌else◌, sum}
use Rattle.std.proofs.lemmas.Bool.{cases_Bool, cases_lt}
use Rattle.std.proofs.lemmas.List.{ext_get_or, get_or_past}
use Rattle.std.proofs.lemmas.List.Sums.{sum_by-cons}
use Rattle.numa_mask.specs.NodeSet.{has}
use Rattle.numa_pools.specs.Turns.{each, least, less, on, on_from, plus}
use Rattle.numa_pools.specs.Rounds.{turns_within}

pub sum-cons : (x : ℕ) (xs : List ℕ) → sum (x ∷ xs) ≡ x + sum xs
sum-cons x xs = sum_by-cons (λ (r : ℕ). r) x xs

-- ---- two numbers of each node

pub length-each : (f : ℕ → ℕ → ℕ) (xs ys : List ℕ) → length xs ≡ length ys
    → length (each f xs ys) ≡ length xs
length-each f [] ys same = refl
length-each f (x ∷ xs) [] same = absurd (omega (arith, same))
length-each f (x ∷ xs) (y ∷ ys) same = ap suc (length-each f xs ys (omega (arith, same)))

pub each-at : (f : ℕ → ℕ → ℕ) (xs ys : List ℕ) (k : ℕ) → length xs ≡ length ys → k < length xs
    → slice_index (each f xs ys) k ≡ f (slice_index xs k) (slice_index ys k)
each-at f [] ys k same within = absurd (omega (arith, within))
each-at f (x ∷ xs) [] k same within = absurd (omega (arith, same))
each-at f (x ∷ xs) (y ∷ ys) zero same within = refl
each-at f (x ∷ xs) (y ∷ ys) (suc k) same within =
    each-at f xs ys k (omega (arith, same)) (omega (arith, within))

-- also past the end, where two zeros give 0
pub each-everywhere : (f : ℕ → ℕ → ℕ) (xs ys : List ℕ) (k : ℕ) → f 0 0 ≡ 0 → length xs ≡ length ys
    → slice_index (each f xs ys) k ≡ f (slice_index xs k) (slice_index ys k)
each-everywhere f xs ys k none same = elim (cases_lt k (length xs)) [
  | inl l ↦ each-at f xs ys k same l
  | inr l ↦
      let a : slice_index xs k ≡ 0 = get_or_past xs k 0 l in
      let b : slice_index ys k ≡ 0 = get_or_past ys k 0 (omega (arith, same, l)) in
      let c : slice_index (each f xs ys) k ≡ 0 =
      get_or_past (each f xs ys) k 0 (omega (arith, l, length-each f xs ys same)) in
      c ∙ sym none ∙ ap (λ (n : ℕ). f n 0) (sym a) ∙ ap (f (slice_index xs k)) (sym b)
]

-- a list that has at each place what two others give
pub each-is : (f : ℕ → ℕ → ℕ) (zs xs ys : List ℕ) → length zs ≡ length xs → length xs ≡ length ys
    → ((k : ℕ) → k < length xs → slice_index zs k ≡ f (slice_index xs k) (slice_index ys k))
    → zs ≡ each f xs ys
each-is f zs xs ys long same all =
    ext_get_or 0 zs (each f xs ys) (long ∙ sym (length-each f xs ys same))
    (λ k l. let within : k < length xs = omega (arith, l, long) in
    all k within ∙ sym (each-at f xs ys k same within))

pub plus-at : (xs ys : List ℕ) (k : ℕ) → length xs ≡ length ys → slice_index (plus xs ys) k
    ≡ slice_index xs k + slice_index ys k
plus-at xs ys k same = each-everywhere (λ a b. a + b) xs ys k refl same

pub less-at : (xs ys : List ℕ) (k : ℕ) → length xs ≡ length ys → slice_index (less xs ys) k
    ≡ slice_index xs k - slice_index ys k
less-at xs ys k same = each-everywhere (λ a b. a - b) xs ys k refl same

pub least-at : (xs ys : List ℕ) (k : ℕ) → length xs ≡ length ys → slice_index (least xs ys) k
    ≡ min (slice_index xs k) (slice_index ys k)
least-at xs ys k same = each-everywhere min xs ys k refl same

-- ---- the nodes of a set

pub length-on_from : (nodes first : ℕ) (xs : List ℕ) → length (on_from nodes first xs) ≡ length xs
length-on_from nodes first [] = refl
length-on_from nodes first (x ∷ xs) = ap suc (length-on_from nodes (first + 1) xs)

pub length-on : (nodes : ℕ) (xs : List ℕ) → length (on nodes xs) ≡ length xs
unfolding on
length-on nodes xs = length-on_from nodes 0 xs

on_from-at : (nodes first : ℕ) (xs : List ℕ) (k : ℕ) → slice_index (on_from nodes first xs) k
    ≡ (if has nodes (first + k) then slice_index xs k else 0)
on_from-at nodes first [] k = elim (cases_Bool (has nodes (first + k))) [
  | inl e ↦ rw e refl
  | inr e ↦ rw e refl
]
on_from-at nodes first (x ∷ xs) zero =
    let same : first ≡ first + 0 = omega arith in
    ap (λ (n : ℕ). if has nodes n then x else 0) same
on_from-at nodes first (x ∷ xs) (suc k) =
    let same : first + 1 + k ≡ first + suc k = omega arith in
    on_from-at nodes (first + 1) xs k
    ∙ ap (λ (n : ℕ). if has nodes n then slice_index xs k else 0) same

pub on-at : (nodes : ℕ) (xs : List ℕ) (k : ℕ) → slice_index (on nodes xs) k
    ≡ (if has nodes k then slice_index xs k else 0)
unfolding on
on-at nodes xs k =
    let same : 0 + k ≡ k = omega arith in
    on_from-at nodes 0 xs k ∙ ap (λ (n : ℕ). if has nodes n then slice_index xs k else 0) same

pub on-in : (nodes : ℕ) (xs : List ℕ) (k : ℕ) → has nodes k ≡ true → slice_index (on nodes xs) k
    ≡ slice_index xs k
on-in nodes xs k is_in = rw (on-at nodes xs k, is_in) refl

pub on-out : (nodes : ℕ) (xs : List ℕ) (k : ℕ) → has nodes k ≡ false → slice_index (on nodes xs) k
    ≡ 0
on-out nodes xs k is_out = rw (on-at nodes xs k, is_out) refl

pub on-le : (nodes : ℕ) (xs : List ℕ) (k : ℕ) → slice_index (on nodes xs) k ≤ slice_index xs k
on-le nodes xs k = elim (cases_Bool (has nodes k)) [
  | inl e ↦ omega (arith, on-in nodes xs k e)
  | inr e ↦ omega (arith, on-out nodes xs k e)
]

-- ---- sums

pub sum-plus : (xs ys : List ℕ) → length xs ≡ length ys → sum (plus xs ys) ≡ sum xs + sum ys
sum-plus [] [] same = refl
sum-plus [] (y ∷ ys) same = absurd (omega (arith, same))
sum-plus (x ∷ xs) [] same = absurd (omega (arith, same))
sum-plus (x ∷ xs) (y ∷ ys) same =
    omega (
      arith,
      sum-plus xs ys (omega (arith, same)),
      sum-cons x xs,
      sum-cons y ys,
      sum-cons (x + y) (plus xs ys),
    )

pub sum-less : (xs ys : List ℕ) → length xs ≡ length ys
    → ((k : ℕ) → slice_index ys k ≤ slice_index xs k) → sum (less xs ys) + sum ys ≡ sum xs
sum-less [] [] same fewer = refl
sum-less [] (y ∷ ys) same fewer = absurd (omega (arith, same))
sum-less (x ∷ xs) [] same fewer = absurd (omega (arith, same))
sum-less (x ∷ xs) (y ∷ ys) same fewer =
    let here : y ≤ x = fewer 0 in
    omega (
      arith,
      sum-less xs ys (omega (arith, same)) (λ k. fewer (suc k)),
      here,
      sum-cons x xs,
      sum-cons y ys,
      sum-cons (x - y) (less xs ys),
    )

pub sum-le : (xs ys : List ℕ) → length xs ≡ length ys
    → ((k : ℕ) → slice_index xs k ≤ slice_index ys k) → sum xs ≤ sum ys
sum-le [] [] same fewer = omega arith
sum-le [] (y ∷ ys) same fewer = absurd (omega (arith, same))
sum-le (x ∷ xs) [] same fewer = absurd (omega (arith, same))
sum-le (x ∷ xs) (y ∷ ys) same fewer =
    let here : x ≤ y = fewer 0 in
    omega (
      arith,
      sum-le xs ys (omega (arith, same)) (λ k. fewer (suc k)),
      here,
      sum-cons x xs,
      sum-cons y ys,
    )

pub sum-on : (nodes : ℕ) (xs : List ℕ) → sum (on nodes xs) ≤ sum xs
sum-on nodes xs = sum-le (on nodes xs) xs (length-on nodes xs) (on-le nodes xs)

pub sum-most : (most : ℕ) (xs : List ℕ) → ((k : ℕ) → slice_index xs k ≤ most)
    → sum xs ≤ length xs * most
sum-most most [] all = omega arith
sum-most most (x ∷ xs) all =
    let here : x ≤ most = all 0 in
    omega (arith, sum-most most xs (λ k. all (suc k)), here, sum-cons x xs)

-- one number is within the sum
pub at-le-sum : (xs : List ℕ) (k : ℕ) → slice_index xs k ≤ sum xs
at-le-sum [] k = omega arith
at-le-sum (x ∷ xs) zero = omega (arith, sum-cons x xs)
at-le-sum (x ∷ xs) (suc k) = omega (arith, at-le-sum xs k, sum-cons x xs)

-- ---- turns of at most so many for each

pub turns_within-cons : (level x : ℕ) (xs : List ℕ) → turns_within level (x ∷ xs)
    ≡ min x level + turns_within level xs
turns_within-cons level x xs = sum_by-cons (λ (pages : ℕ). min pages level) x xs

pub turns_within-none : (xs : List ℕ) → turns_within 0 xs ≡ 0
turns_within-none [] = refl
turns_within-none (x ∷ xs) = omega (arith, turns_within-none xs, turns_within-cons 0 x xs)

-- as many rounds as turns are enough, if there is room for the turns
pub turns_within-enough : (times : ℕ) (xs : List ℕ) → min times (sum xs) ≤ turns_within times xs
turns_within-enough times [] = omega arith
turns_within-enough times (x ∷ xs) =
    omega (arith, turns_within-enough times xs, turns_within-cons times x xs, sum-cons x xs)
