-- Parts of pages of 2 MiB that are said to lie somewhere, or nowhere, page by page.
use Rattle.std.proofs.Common.{◌≡◌, ℕ, ◌+◌, ◌-◌, ◌*◌, ◌/◌, ◌<◌, ◌≤◌, Bool, true, false, Option, Some}
use Rattle.std.proofs.Common.{None, refl, sym, ap, subst, ◌∙◌, arith, inl, inr, ◌⊎◌}
use Rattle.std.proofs.Common.{is_some}
use Rattle.std.specs.Prelude.{◌&&◌, if◌then◌else◌}
use Rattle.std.proofs.lemmas.Bool.{and_right, cases_lt}
use Rattle.numa_ranges.specs.Runs.{in_pages}
use Rattle.numa_ranges.proofs.Apart.{in_pages-above, in_pages-below, in_pages-true}
use Rattle.numa_placed.specs.declared.spot.Spot.{Spot}
use Rattle.numa_huge.specs.declared.spot.HugeSpot.{HugeSpot}
use Rattle.numa_page_state.specs.Huge.{with_parts}

-- a span of no pages has none
none-in : (first n page : ℕ) → n ≡ 0 → in_pages first n page ≡ false
none-in first n page none = elim (cases_lt page first) [
  | inl below ↦ in_pages-below first n page below
  | inr over ↦ in_pages-above first n page (omega (arith, over, none))
]

-- a page of 2 MiB has 512 parts
part-in : (first n part : ℕ) → in_pages (first * 512) (n * 512) part ≡ in_pages first n (part / 512)
part-in first n part = elim (cases_lt part (first * 512)) [
  | inl below ↦
      in_pages-below (first * 512) (n * 512) part below
      ∙ sym (in_pages-below first n (part / 512) (omega (arith, below)))
  | inr from ↦ elim (cases_lt part (first * 512 + n * 512)) [
    | inl within ↦
        in_pages-true (first * 512) (n * 512) part from within
        ∙ sym (in_pages-true first n (part / 512) (omega (arith, from)) (omega (arith, within)))
    | inr over ↦
        in_pages-above (first * 512) (n * 512) part over
        ∙ sym (in_pages-above first n (part / 512) (omega (arith, over)))
  ]
]

module _ (spot : Spot) (huge : ℕ → Option HugeSpot) where
  -- a part of a page, where the page is among some
  abbrev so : Bool → ℕ → Spot → Spot
  so among page other = if among && is_some (huge page) then spot else other

  pub parts-none : (first n : ℕ) (spots : ℕ → Spot) (part : ℕ) → n ≡ 0
      → with_parts spot huge first n spots part ≡ spots part
  parts-none first n spots part none =
      ap (λ (b : Bool). so b (part / 512) (spots part)) (none-in first n (part / 512) none)

  -- the parts of some pages more
  pub parts-more : (first page next : ℕ) (start now : ℕ → Spot) → first ≤ page → page ≤ next
      → ((part : ℕ) → now part ≡ with_parts spot huge first (page - first) start part)
      → (part : ℕ) → with_parts spot huge page (next - page) now part
      ≡ with_parts spot huge first (next - first) start part
  parts-more first page next start now rises more is part =
      let here : ℕ = part / 512 in
      let among : ℕ → Bool = λ at. in_pages page (next - page) at in
      elim (cases_lt here page) [
        | inl below ↦
            ap (λ (b : Bool). so b here (now part)) (in_pages-below page (next - page) here below)
            ∙ is part
            ∙ ap (λ (b : Bool). so b here (start part)) (same-below below (cases_lt here first))
        | inr from ↦
            let still : now part ≡ start part =
            is part
            ∙ ap (λ (b : Bool). so b here (start part))
            (in_pages-above first (page - first) here (omega (arith, rises, from))) in
            elim (cases_lt here next) [
              | inl at ↦
                  ap (λ (s : Spot). so (among here) here s) still
                  ∙ ap (λ (b : Bool). so b here (start part)) (in_pages-true page (next - page) here
                  from (omega (arith, from, at))
                  ∙ sym (in_pages-true first (next - first) here (omega (arith, rises, from))
                  (omega (arith, rises, from, at))))
              | inr over ↦
                  ap (λ (s : Spot). so (among here) here s) still
                  ∙ ap (λ (b : Bool). so b here (start part)) (in_pages-above page (next - page)
                  here (omega (arith, more, over))
                  ∙ sym (in_pages-above first (next - first) here
                  (omega (arith, rises, more, over))))
            ]
      ]
    where
      same-below : part / 512 < page → (part / 512 < first) ⊎ (first ≤ part / 512)
          → in_pages first (page - first) (part / 512)
          ≡ in_pages first (next - first) (part / 512)
      same-below below (inl low) =
          in_pages-below first (page - first) (part / 512) low
          ∙ sym (in_pages-below first (next - first) (part / 512) low)
      same-below below (inr high) =
          in_pages-true first (page - first) (part / 512) high (omega (arith, high, below))
          ∙ sym (in_pages-true first (next - first) (part / 512) high
          (omega (arith, high, below, more)))

  -- the same is known of pages, which are mapped as ones of 2 MiB or aren't
  abbrev pub AreAlike : ℕ → ℕ → Type 0
  AreAlike first n = (page : ℕ) → first ≤ page → page < first + n → huge page ≡ huge first

  pub parts-set : (first n : ℕ) (spots : ℕ → Spot) (part : ℕ) → AreAlike first n
      → is_some (huge first) ≡ true
      → (if in_pages (first * 512) (n * 512) part then spot else spots part)
      ≡ with_parts spot huge first n spots part
  parts-set first n spots part alike mapped =
      ap (λ (b : Bool). if b then spot else spots part) (part-in first n part)
      ∙ by-place (cases_lt (part / 512) first)
    where
      by-place : (part / 512 < first) ⊎ (first ≤ part / 512)
          → (if in_pages first n (part / 512) then spot else spots part)
          ≡ so (in_pages first n (part / 512)) (part / 512) (spots part)
      by-place (inl below) = rw (in_pages-below first n (part / 512) below) refl
      by-place (inr from) = elim (cases_lt (part / 512) (first + n)) [
        | inl at ↦
            let there : is_some (huge (part / 512)) ≡ true =
            ap is_some (alike (part / 512) from at) ∙ mapped in
            rw (in_pages-true first n (part / 512) from at, there) refl
        | inr over ↦ rw (in_pages-above first n (part / 512) over) refl
      ]

  pub parts-kept : (first n : ℕ) (spots : ℕ → Spot) (part : ℕ) → AreAlike first n
      → is_some (huge first) ≡ false
      → spots part ≡ with_parts spot huge first n spots part
  parts-kept first n spots part alike bare =
      sym (ap (λ (b : Bool). if b then spot else spots part)
      (no-part (cases_lt (part / 512) first)))
    where
      no-part : (part / 512 < first) ⊎ (first ≤ part / 512)
          → (in_pages first n (part / 512) && is_some (huge (part / 512))) ≡ false
      no-part (inl below) = rw (in_pages-below first n (part / 512) below) refl
      no-part (inr from) = elim (cases_lt (part / 512) (first + n)) [
        | inl at ↦
            and_right (in_pages first n (part / 512)) (is_some (huge (part / 512)))
            (ap is_some (alike (part / 512) from at) ∙ bare)
        | inr over ↦ rw (in_pages-above first n (part / 512) over) refl
      ]

  -- by a span in bytes
  pub parts-forgotten : (first n small pages : ℕ) (spots : ℕ → Spot) (part : ℕ)
      → small ≡ first * 512 → pages ≡ n * 512 → AreAlike first n → is_some (huge first) ≡ true
      → (if in_pages small pages part then spot else spots part)
      ≡ with_parts spot huge first n spots part
  parts-forgotten first n small pages spots part at long alike mapped =
      (λ i. if in_pages (at i) (long i) part then spot else spots part)
      ∙ parts-set first n spots part alike mapped
