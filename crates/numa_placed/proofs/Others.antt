-- Pages that lie astray of a list, by how many lie on each node.
use Rattle.std.proofs.Common.{◌≡◌, ℕ, ◌+◌, ◌<◌, ◌≤◌, Bool, true, false, not, arith}
use Rattle.std.proofs.Common.{refl, sym, ap, ◌∙◌, inl, inr}
use Rattle.std.specs.Prelude.{nat_le, nat_lt}
use Rattle.std.proofs.lemmas.Bool.{both_ways, cases_Bool, cases_lt, eq-eqb, eqb-true, leb-false}
use Rattle.std.proofs.lemmas.Bool.{lt-ltb, ltb-true}
use Rattle.numa_mask.specs.NodeSet.{has}
use Rattle.numa_ranges.specs.Counts.{count_pages}
use Rattle.numa_ranges.specs.Maps.{any_page}
use Rattle.numa_ranges.proofs.Counted.{count-none}
use Rattle.numa_ranges.proofs.Joined.{and_split}
use Rattle.numa_ranges.proofs.Pages.{any_page-false, any_page-true}
use Rattle.numa_placed.specs.Astray.{is_astray, is_other}
use Rattle.numa_placed.specs.Spots.{is_off, is_on, pages_within}
use Rattle.numa_placed.specs.declared.spot.Spot.{Spot}
use Rattle.numa_placed.specs.declared.spot.Spot.TheVariants.{Nowhere, Stated}
use Rattle.numa_placed.proofs.Shared.{zero-none}

-- a page on a node that isn't in the list lies astray
on-astray : (list node : ℕ) (spot : Spot) → has list node ≡ false → is_on node spot ≡ true
    → is_astray list spot ≡ true
on-astray list node Nowhere out on = absurd (cc)
on-astray list node (Stated other) out on =
    ap not (ap (has list) (eqb-true other node on) ∙ out)

module _ (spots : ℕ → Spot) (list first n m : ℕ) (less : n ≤ m) where
  abbrev astray : ℕ → Bool
  astray page = is_astray list (spots page)

  -- where some page of a span lies on a node that isn't in the list, some page lies astray
  pub astray-some : (node : ℕ) → has list node ≡ false
      → 0 < pages_within (is_on node) spots first n → any_page astray first m ≡ true
  astray-some node out some = elim (cases_Bool (any_page astray first m)) [
    | inl t ↦ t
    | inr e ↦
        let none : count_pages (λ page. is_on node (spots page)) first n ≡ 0 =
        count-none (λ page. is_on node (spots page)) first n (λ page low high.
        elim (cases_Bool (is_on node (spots page))) [
          | inl on ↦ absurd (both_ways (any_page astray first m) e
              (any_page-true astray first m page low (omega (arith, high, less))
              (on-astray list node (spots page) out on)))
          | inr off ↦ off
        ]) in
        absurd (omega (arith, some, none))
  ]

  -- a page of the span lies nowhere, or on a node of the list
  stays : pages_within is_off spots first n ≡ 0
      → ((node : ℕ) → node < 256 → has list node ≡ false
      → pages_within (is_on node) spots first n ≡ 0)
      → (page : ℕ) → first ≤ page → page < first + n → (spot : Spot) → spots page ≡ spot
      → is_astray list spot ≡ false
  stays off none page low high Nowhere is = refl
  stays off none page low high (Stated node) is = elim (cases_Bool (has list node)) [
    | inl t ↦ ap not t
    | inr out ↦
        let near : nat_le 256 node ≡ false = sym (ap is_off is)
        ∙ zero-none (λ p. is_off (spots p)) first n page off low high in
        let gone : is_on node (spots page) ≡ false =
        zero-none (λ p. is_on node (spots p)) first n page
        (none node (leb-false 256 node near) out) low high in
        let here : is_on node (spots page) ≡ true = ap (is_on node) is ∙ eq-eqb node node refl in
        absurd (both_ways (is_on node (spots page)) gone here)
  ]

  pub astray-none : pages_within is_off spots first n ≡ 0
      → ((node : ℕ) → node < 256 → has list node ≡ false
      → pages_within (is_on node) spots first n ≡ 0)
      → ((page : ℕ) → first + n ≤ page → page < first + m → spots page ≡ Nowhere)
      → any_page astray first m ≡ false
  astray-none off none far =
      any_page-false astray first m (λ page low high. elim (cases_lt page (first + n)) [
        | inl near ↦ stays off none page low near (spots page) refl
        | inr beyond ↦ ap (is_astray list) (far page beyond high)
      ])

-- pages from one on that lie nowhere
pub astray-far : (spots : ℕ → Spot) (list first m : ℕ)
    → ((page : ℕ) → first ≤ page → page < first + m → spots page ≡ Nowhere)
    → any_page (λ page. is_astray list (spots page)) first m ≡ false
astray-far spots list first m far =
    any_page-false (λ page. is_astray list (spots page)) first m
    (λ page low high. ap (is_astray list) (far page low high))

-- ---- by lists

pub other-so : (list : ℕ) (count : ℕ → ℕ) (node : ℕ) → is_other list count node ≡ true
    → (has list node ≡ false) × (0 < count node)
other-so list count node is =
    let both = and_split (not (has list node)) (nat_lt 0 (count node)) is in
    (out (has list node) both.0, ltb-true 0 (count node) both.1)
  where
    out : (b : Bool) → not b ≡ true → b ≡ false
    out true t = absurd (both_ways false refl t)
    out false t = refl

pub other-none : (list : ℕ) (count : ℕ → ℕ) (node : ℕ) → is_other list count node ≡ false
    → has list node ≡ false → count node ≡ 0
other-none list count node is out = elim (cases_lt 0 (count node)) [
  | inl some ↦
      let other : is_other list count node ≡ true =
      rw (out, lt-ltb 0 (count node) some) refl in
      absurd (both_ways (is_other list count node) is other)
  | inr le ↦ omega (arith, le)
]
