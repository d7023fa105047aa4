-- Pages counted by their place in a cycle, and by the node that has the place.
use Rattle.std.proofs.Common.{◌≡◌, ℕ, zero, suc, ◌+◌, ◌*◌, ◌<◌, ◌≤◌, ◌%◌, ◌&&◌, Bool, true, false}
use Rattle.std.proofs.Common.{List, slice_index, ◌⊎◌, refl, sym, ap, ◌∙◌, arith, inl, inr}
use Rattle.std.specs.Prelude.{◌==◌, ◌/◌, nat_lt}
use Rattle.std.proofs.Math.Nat.{mod-add-div', mod-lt}
use Rattle.std.proofs.lemmas.Bool.{cases_Bool, cases_eq, cases_lt, eq-eqb, le-ltb, lt-ltb}
use Rattle.std.proofs.lemmas.Bool.{ne_eqb}
use Rattle.std.proofs.lemmas.Nat.{div-mul-add, mod-mul-add}
use Rattle.numa_ranges.specs.Counts.{count_pages}
use Rattle.numa_ranges.proofs.Counted.{count-none, count-split}
use Rattle.numa_placed.specs.Spots.{pages_if}
use Rattle.numa_placed.specs.Turns.{pages_at_place, pages_in_turn, turn_node}
use Rattle.numa_placed.specs.declared.turn.Turn.{Turn}
use Rattle.numa_placed.proofs.Parts.{count-apart}
use Rattle.numa_placed.proofs.Shared.{count-le, count-more, count-same}

none-counted : (test : ℕ → Bool) (a : ℕ) → count_pages test a 0 ≡ 0
unfolding count_pages
none-counted test a = refl

-- how many pages below one have the place
abbrev pub below : ℕ → ℕ → ℕ → ℕ
below count place end = end / count + pages_if (nat_lt place (end % count)) 1

next-bit : (place r : ℕ) → pages_if (nat_lt place (r + 1)) 1
    ≡ pages_if (nat_lt place r) 1 + pages_if (r == place) 1
next-bit place r = elim (cases_lt place r) [
  | inl l ↦ rw (
    lt-ltb place (r + 1) (omega (arith, l)),
    lt-ltb place r l,
    ne_eqb r place (λ is. omega (arith, l, is)),
  ) refl
  | inr g ↦ elim (cases_eq r place) [
    | inl is ↦ rw (
      lt-ltb place (r + 1) (omega (arith, is)),
      le-ltb place r g,
      eq-eqb r place is,
    ) refl
    | inr other ↦ rw (
      le-ltb place (r + 1) (omega (arith, other, g)),
      le-ltb place r g,
      ne_eqb r place other,
    ) refl
  ]
]

last-bit : (count place r : ℕ) → place < count → r + 1 ≡ count
    → 1 ≡ pages_if (nat_lt place r) 1 + pages_if (r == place) 1
last-bit count place r low last =
    let all : pages_if (nat_lt place (r + 1)) 1 ≡ 1 =
    ap (λ b. pages_if b 1) (lt-ltb place (r + 1) (omega (arith, low, last))) in
    sym all ∙ next-bit place r

module _ (count place : ℕ) (low : place < count) where
  below-next : (end : ℕ) → below count place (suc end)
      ≡ below count place end + pages_if (end % count == place) 1
  below-next end =
      let q = end / count in
      let r = end % count in
      let whole : r + q * count ≡ end = mod-add-div' end count in
      let small : r < count = mod-lt end (omega (arith, low)) in
      elim (cases_lt (r + 1) count) [
        | inl l ↦
            let is : suc end ≡ q * count + (r + 1) = omega (arith, whole) in
            let times : suc end / count ≡ q =
            ap (λ (n : ℕ). n / count) is ∙ div-mul-add q count (r + 1) l in
            let rest : suc end % count ≡ r + 1 =
            ap (λ (n : ℕ). n % count) is ∙ mod-mul-add q count (r + 1) l in
            let bit : pages_if (nat_lt place (suc end % count)) 1
            ≡ pages_if (nat_lt place (r + 1)) 1 =
            ap (λ (n : ℕ). pages_if (nat_lt place n) 1) rest in
            omega (arith, times, bit, next-bit place r)
        | inr g ↦
            let last : r + 1 ≡ count = omega (arith, small, g) in
            let more : (q + 1) * count ≡ q * count + count = suc-mul' q count in
            let is : suc end ≡ (q + 1) * count + 0 = omega (arith, whole, last, more) in
            let times : suc end / count ≡ q + 1 =
            ap (λ (n : ℕ). n / count) is ∙ div-mul-add (q + 1) count 0 (omega (arith, low)) in
            let rest : suc end % count ≡ 0 =
            ap (λ (n : ℕ). n % count) is ∙ mod-mul-add (q + 1) count 0 (omega (arith, low)) in
            let bit : pages_if (nat_lt place (suc end % count)) 1 ≡ 0 =
            ap (λ (n : ℕ). pages_if (nat_lt place n) 1) rest
            ∙ ap (λ b. pages_if b 1) (le-ltb place 0 (omega arith)) in
            omega (arith, times, bit, last-bit count place r low last)
      ]
    where
      suc-mul' : (a b : ℕ) → (a + 1) * b ≡ a * b + b
      suc-mul' a b = omega arith

  pub below-counted : (end : ℕ) → below count place end ≡ pages_at_place count place 0 end
  below-counted zero =
      let is : 0 ≡ 0 * count + 0 = omega arith in
      let times : 0 / count ≡ 0 =
      ap (λ (n : ℕ). n / count) is ∙ div-mul-add 0 count 0 (omega (arith, low)) in
      let rest : 0 % count ≡ 0 =
      ap (λ (n : ℕ). n % count) is ∙ mod-mul-add 0 count 0 (omega (arith, low)) in
      let bit : pages_if (nat_lt place (0 % count)) 1 ≡ 0 =
      ap (λ (n : ℕ). pages_if (nat_lt place n) 1) rest
      ∙ ap (λ b. pages_if b 1) (le-ltb place 0 (omega arith)) in
      omega (arith, times, bit, none-counted (λ page. page % count == place) 0)
  below-counted (suc end) =
      let more : pages_at_place count place 0 (end + 1) ≡ pages_at_place count place 0 end
      + pages_if (end % count == place) 1 =
      count-more (λ page. page % count == place) 0 end end (omega arith) in
      let size : end + 1 ≡ suc end = omega arith in
      let moved : pages_at_place count place 0 (end + 1) ≡ pages_at_place count place 0 (suc end) =
      ap (pages_at_place count place 0) size in
      omega (arith, below-next end, below-counted end, more, moved)

-- those of some pages
pub at-place : (count place first n : ℕ) → pages_at_place count place 0 (first + n)
    ≡ pages_at_place count place 0 first + pages_at_place count place first n
at-place count place first n =
    let seam : 0 + first ≡ first = omega arith in
    count-split (λ page. page % count == place) 0 first n (first + n) refl
    ∙ ap (λ (a : ℕ). pages_at_place count place 0 first + pages_at_place count place a n) seam

-- ---- by the node that has the place

-- the pages on a node whose place is before one
abbrev pub pages_before : List ℕ → Turn → ℕ → ℕ → ℕ → ℕ → ℕ
pages_before nodes turn place node first n = count_pages
    (λ page. nat_lt (page % turn.count) place && (turn_node nodes turn page == node)) first n

-- pages that pass two tests, of which one is the same for all
count-both : (test : ℕ → Bool) (passes : Bool) (first n : ℕ)
    → count_pages (λ page. test page && passes) first n ≡ pages_if passes (count_pages test first n)
count-both test true first n =
    count-same (λ page. test page && true) test first n (λ page low high.
    elim (cases_Bool (test page)) [ inl t ↦ rw t refl | inr e ↦ rw e refl ])
count-both test false first n =
    count-none (λ page. test page && false) first n (λ page low high.
    elim (cases_Bool (test page)) [ inl t ↦ rw t refl | inr e ↦ rw e refl ])

module _ (nodes : List ℕ) (turn : Turn) (node first n : ℕ) where
  pub before-none : pages_before nodes turn 0 node first n ≡ 0
  before-none =
      count-none
      (λ page. nat_lt (page % turn.count) 0 && (turn_node nodes turn page == node)) first n
      (λ page low high. rw (le-ltb (page % turn.count) 0 (omega arith)) refl)

  -- one place more
  pub before-next : (place : ℕ) → pages_before nodes turn (place + 1) node first n
      ≡ pages_before nodes turn place node first n
      + pages_if (slice_index nodes (turn.from + place) == node)
      (pages_at_place turn.count place first n)
  before-next place =
      let here = slice_index nodes (turn.from + place) == node in
      count-apart
      (λ page. nat_lt (page % turn.count) (place + 1) && (turn_node nodes turn page == node))
      (λ page. nat_lt (page % turn.count) place && (turn_node nodes turn page == node))
      (λ page. (page % turn.count == place) && here) first n (λ page. split page)
      ∙ ap (λ (k : ℕ). pages_before nodes turn place node first n + k)
      (count-both (λ page. page % turn.count == place) here first n)
    where
      split : (page : ℕ)
          → (((nat_lt (page % turn.count) (place + 1) && (turn_node nodes turn page == node))
          ≡ (nat_lt (page % turn.count) place && (turn_node nodes turn page == node)))
          × (((page % turn.count == place) && (slice_index nodes (turn.from + place) == node))
          ≡ false))
          ⊎ (((nat_lt (page % turn.count) (place + 1) && (turn_node nodes turn page == node))
          ≡ ((page % turn.count == place) && (slice_index nodes (turn.from + place) == node)))
          × ((nat_lt (page % turn.count) place && (turn_node nodes turn page == node)) ≡ false))
      split page =
          let r = page % turn.count in
          elim (cases_eq r place) [
            | inl is ↦ inr (
              rw (is, lt-ltb place (place + 1) (omega arith), eq-eqb place place refl) refl,
              rw (is, le-ltb place place (omega arith)) refl,
            )
            | inr other ↦ elim (cases_lt r place) [
              | inl l ↦ inl (
                rw (lt-ltb r (place + 1) (omega (arith, l)), lt-ltb r place l) refl,
                rw (ne_eqb r place other) refl,
              )
              | inr g ↦ inl (
                rw (le-ltb r (place + 1) (omega (arith, g, other)), le-ltb r place g) refl,
                rw (ne_eqb r place other) refl,
              )
            ]
          ]

  pub before-all : 0 < turn.count
      → pages_before nodes turn turn.count node first n ≡ pages_in_turn nodes turn node first n
  before-all some =
      count-same
      (λ page. nat_lt (page % turn.count) turn.count && (turn_node nodes turn page == node))
      (λ page. turn_node nodes turn page == node) first n
      (λ page low high. rw (lt-ltb (page % turn.count) turn.count (mod-lt page some)) refl)

  pub before-le : (place : ℕ) → pages_before nodes turn place node first n ≤ n
  before-le place = count-le
      (λ page. nat_lt (page % turn.count) place && (turn_node nodes turn page == node)) first n
