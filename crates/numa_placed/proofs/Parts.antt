-- Pages counted by two tests, and those of a span that keep a frame passed over.
use Rattle.std.proofs.Common.{◌≡◌, ◌≢◌, ℕ, zero, suc, ◌+◌, ◌&&◌, Bool, true, false}
use Rattle.std.proofs.Common.{◌∷◌, refl, sym, ap, ◌∙◌, arith, ◌⊎◌}
use Rattle.std.proofs.Common.{inl, inr, is_some}
use Rattle.std.specs.Prelude.{if◌then◌else◌}
use Rattle.std.specs.BTreeMap.{is_at}
use Rattle.std.specs.Ordering.{nat_cmp}
use Rattle.std.proofs.lemmas.Bool.{cases_Bool, cases_eq}
use Rattle.std.proofs.lemmas.Grind.{common_steps}
use Rattle.numa_ranges.specs.Counts.{count_pages}
use Rattle.numa_ranges.specs.Runs.{in_pages}
use Rattle.numa_ranges.proofs.Apart.{in_pages-true}
use Rattle.numa_requests.specs.declared.placement.Placement.{Placement}
use Rattle.numa_maps.specs.Residents.{Kept, placed_at}
use Rattle.numa_placed.specs.Spots.{changed_spots, forgotten_spot}
use Rattle.numa_placed.specs.Spots.{passed_over}
use Rattle.numa_placed.specs.declared.spot.Spot.{Spot}

-- ---- counts

-- the pages that pass are those of two tests that no page passes both of
pub count-apart : (f g h : ℕ → Bool) (a n : ℕ)
    → ((page : ℕ) → ((f page ≡ g page) × (h page ≡ false)) ⊎ ((f page ≡ h page) × (g page ≡ false)))
    → count_pages f a n ≡ count_pages g a n + count_pages h a n
unfolding count_pages
count-apart f g h a zero apart = refl
count-apart f g h a (suc n) apart =
    let rest = count-apart f g h (a + 1) n apart in
    elim (apart a) [
      | inl one ↦ elim (cases_Bool (g a)) [
        | inl t ↦ rw (one.0, one.1, t) (omega (arith, rest))
        | inr e ↦ rw (one.0, one.1, e) (omega (arith, rest))
      ]
      | inr one ↦ elim (cases_Bool (h a)) [
        | inl t ↦ rw (one.0, one.1, t) (omega (arith, rest))
        | inr e ↦ rw (one.0, one.1, e) (omega (arith, rest))
      ]
    ]

-- ---- pages that keep a frame

at-itself : (page : ℕ) → is_at (nat_cmp page) page ≡ true
at-itself page = grind (arith, common_steps)

pub at-other : (page other : ℕ) → page ≢ other → is_at (nat_cmp page) other ≡ false
at-other page other ne = grind (arith, common_steps)

one-here : (page : ℕ) → in_pages page 1 page ≡ true
one-here page = in_pages-true page 1 page (omega arith) (omega arith)

one-other : (page other : ℕ) → other ≢ page → in_pages page 1 other ≡ false
one-other page other ne = grind (arith, common_steps)

-- the first of the pages was forgotten, where the span has it: the others are left
pub passed-step : (first pages : ℕ) (before rest : Kept) (at : ℕ × Placement) (old new : ℕ → Spot)
    → before ≡ at ∷ rest
    → ((page : ℕ) → new page ≡ (if in_pages first pages at.0
    then changed_spots at.0 1 forgotten_spot old page else old page))
    → (page : ℕ) → passed_over rest first pages new page ≡ passed_over before first pages old page
passed-step first pages before rest at old new steps says page =
    ap (λ (s : Spot). if in_pages first pages page && is_some (placed_at rest page)
    then forgotten_spot s else s) (says page)
    ∙ step
    ∙ ap (λ (k : Kept). passed_over k first pages old page) (sym steps)
  where
    hit : page ≡ at.0 → (if in_pages first pages page && is_some (placed_at rest page)
        then forgotten_spot (if in_pages first pages at.0
        then changed_spots at.0 1 forgotten_spot old page else old page)
        else (if in_pages first pages at.0
        then changed_spots at.0 1 forgotten_spot old page else old page))
        ≡ passed_over (at ∷ rest) first pages old page
    hit is =
        let own : is_at (nat_cmp page) at.0 ≡ true = ap (is_at (nat_cmp page)) (sym is)
        ∙ at-itself page in
        let one : in_pages at.0 1 page ≡ true = ap (in_pages at.0 1) is ∙ one-here at.0 in
        rw (← is) (elim (cases_Bool (in_pages first pages page)) [
          | inl t ↦ elim (cases_Bool (is_some (placed_at rest page))) [
            | inl u ↦ rw (t, u, at-itself page) refl
            | inr u ↦ rw (t, u, at-itself page, one-here page) refl
          ]
          | inr e ↦ rw e refl
        ])

    miss : page ≢ at.0 → (if in_pages first pages page && is_some (placed_at rest page)
        then forgotten_spot (if in_pages first pages at.0
        then changed_spots at.0 1 forgotten_spot old page else old page)
        else (if in_pages first pages at.0
        then changed_spots at.0 1 forgotten_spot old page else old page))
        ≡ passed_over (at ∷ rest) first pages old page
    miss ne = elim (cases_Bool (in_pages first pages at.0)) [
      | inl t ↦ rw (t, one-other at.0 page ne, at-other page at.0 ne) refl
      | inr e ↦ rw (e, at-other page at.0 ne) refl
    ]

    step : (if in_pages first pages page && is_some (placed_at rest page)
        then forgotten_spot (if in_pages first pages at.0
        then changed_spots at.0 1 forgotten_spot old page else old page)
        else (if in_pages first pages at.0
        then changed_spots at.0 1 forgotten_spot old page else old page))
        ≡ passed_over (at ∷ rest) first pages old page
    step = elim (cases_eq page at.0) [
      | inl is ↦ hit is
      | inr ne ↦ miss ne
    ]
