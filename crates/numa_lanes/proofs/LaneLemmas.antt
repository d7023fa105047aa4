-- Vectors of hits, and chunks of a span, by their lists.
use Rattle.std.proofs.Common.{◌≡◌, ◌==◌, ℕ, ◌+◌, ◌<◌, ◌≤◌, ◌-◌, suc, List, [], ◌∷◌, length, take}
use Rattle.std.proofs.Common.{drop, count_by, replicate, Bool, true, false, cond, refl, ap, sym}
use Rattle.std.proofs.Common.{◌∙◌, arith, map, get_or, set, inl, inr}
use Rattle.std.proofs.Common.{get_or-set_same, get_or-set_other}
use Rattle.std.specs.Simd.Lanes.{sum_l, sel_l, Each1, chunk, put_chunk}
use Rattle.std.proofs.lemmas.List.Recursion.{is_count_by}
use Rattle.std.proofs.lemmas.Bool.{cases_lt, cases_eq, eq-eqb, ne_eqb}
use Rattle.std.proofs.lemmas.List.Sums.{sum_by-append, sum_by-take-le}
use Rattle.std.proofs.lemmas.List.Sums.{count_by_more_yes, count_by_more_no}
use Rattle.numa_lanes.specs.Spans.{node_count}
use Rattle.std.proofs.Math.Seq.{take-add}
use Rattle.std.proofs.lemmas.Simd.{get_or-put_chunk_below, get_or-put_chunk_at, get_or-replicate}

-- one hit more, or none
one_more : (b : Bool) (n : ℕ) → cond b 1 0 + n ≡ cond b (1 + n) n
one_more b n = elim b as (λ b. cond b 1 0 + n ≡ cond b (1 + n) n)
    [ true ↦ refl | false ↦ omega arith ]

-- 1 where an entry passes, and 0 elsewhere
abbrev ones_of : {X : Type 0} (p : X → Bool) (xs : List X) → List ℕ
ones_of p xs = sel_l (map p xs) (replicate (length xs) 1) (replicate (length xs) 0)

-- their sum is the count
pub sel_ones : {X : Type 0} (p : X → Bool) (xs : List X) → sum_l (ones_of p xs) ≡ count_by p xs
sel_ones p xs = is_count_by (λ ys. sum_l (ones_of p ys)) p refl
    (λ y ys. one_more (p y) (sum_l (ones_of p ys))) xs

cond_le : (b : Bool) → cond b 1 0 ≤ 1
cond_le b = elim b as (λ b. cond b 1 0 ≤ 1) [ true ↦ omega arith | false ↦ omega arith ]

-- each is at most 1
pub sel_ones-le : {X : Type 0} (p : X → Bool) (xs : List X) → Each1 (λ a. a ≤ 1) (ones_of p xs)
sel_ones-le p [] = tt
sel_ones-le p (x ∷ xs) = (cond_le (p x), sel_ones-le p xs)

pub length-sel_ones : {X : Type 0} (p : X → Bool) (xs : List X) → length (ones_of p xs) ≡ length xs
length-sel_ones p [] = refl
length-sel_ones p (x ∷ xs) = ap (λ n. suc n) (length-sel_ones p xs)

-- a map that changes nothing
pub map_same : (xs : List ℕ) → map (λ x. x) xs ≡ xs
map_same [] = refl
map_same (x ∷ xs) = ap (λ l. x ∷ l) (map_same xs)

-- the count over one chunk more
pub count_by-more : (p : ℕ → Bool) (xs : List ℕ) (n m : ℕ) → count_by p (take (n + m) xs)
    ≡ count_by p (take n xs) + count_by p (chunk n m xs)
count_by-more p xs n m = ap (count_by p) (take-add n m xs) ∙ sum_by-append (λ x. cond (p x) 1 0)
    (take n xs) (take m (drop n xs))

-- one page more of a span is on a node of its own
pub page_counted : (span : List ℕ) (i node : ℕ) → i < length span → node ≡ get_or span i 0
    → node_count node (take (i + 1) span) ≡ node_count node (take i span) + 1
page_counted span i node inside is =
    count_by_more_yes (λ entry. entry == node) span i 0 inside (eq-eqb _ _ (sym is))

-- so its count is less than that of the span
pub page_fits : (span : List ℕ) (i node : ℕ) → i < length span → node ≡ get_or span i 0
    → node_count node (take i span) + 1 ≤ node_count node span
page_fits span i node inside is = omega (
  arith,
  page_counted span i node inside is,
  sum_by-take-le (λ entry. cond (entry == node) 1 0) span (i + 1),
)

-- the counts of a span's first pages, and of one page more
pub page_added : (span old now : List ℕ) (i at : ℕ) → i < length span → at ≡ get_or span i 0
    → at < length now
    → ((node : ℕ) → node < 256
    → get_or now node 0 ≡ get_or old node 0 + node_count node (take i span))
    → (node : ℕ) → node < 256 → get_or (set now at (get_or now at 0 + 1)) node 0
    ≡ get_or old node 0 + node_count node (take (i + 1) span)
page_added span old now i at inside is fits before node small = elim (cases_eq node at) [
  | inl same ↦
      let one : node_count node (take (i + 1) span) ≡ node_count node (take i span) + 1 =
      page_counted span i node inside (same ∙ is) in
      let here : get_or (set now at (get_or now at 0 + 1)) node 0 ≡ get_or now node 0 + 1 =
      ap (λ n. get_or (set now at (get_or now at 0 + 1)) n 0) same
      ∙ (get_or-set_same now at (get_or now at 0 + 1) 0 fits
      ∙ ap (λ n. get_or now n 0 + 1) (sym same)) in
      omega (arith, here, one, before node small)
  | inr other ↦
      let none : node_count node (take (i + 1) span) ≡ node_count node (take i span) =
      count_by_more_no (λ entry. entry == node) span i 0 inside
      (ne_eqb _ _ (λ e. other (sym (is ∙ e)))) in
      let here : get_or (set now at (get_or now at 0 + 1)) node 0 ≡ get_or now node 0 =
      get_or-set_other now at node (get_or now at 0 + 1) 0 other in
      omega (arith, here, none, before node small)
]

-- 32 pages more are on the node
pub fill_step : (y : ℕ) (out : List ℕ) (at k : ℕ) → at + 32 ≤ length out
    → ((j : ℕ) → j < at → get_or out j 0 ≡ y) → k < at + 32
    → get_or (put_chunk at out (replicate 32 y)) k 0 ≡ y
fill_step y out at k room before lt =
    elim (cases_lt k at) [
      | inl h ↦ get_or-put_chunk_below at out (replicate 32 y) k 0 h ∙ before k h
      | inr h ↦
          let j : ℕ = k - at in
          let e : at + j ≡ k = omega arith in
          let small : j < 32 = omega arith in
          ap (λ n. get_or (put_chunk at out (replicate 32 y)) n 0) (sym e)
          ∙ get_or-put_chunk_at at out (replicate 32 y) j 0 small room
          ∙ get_or-replicate 32 j y 0 small
    ]
