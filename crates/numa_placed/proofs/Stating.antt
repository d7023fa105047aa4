-- Stating where the mapped pages of a span lie, range by range.
use Rattle.std.proofs.Common.{◌≡◌, ℕ, ◌+◌, ◌-◌, ◌<◌, ◌≤◌, ◌^◌, ◌&&◌, Bool, true, false, is_some}
use Rattle.std.proofs.Common.{Option, arith, get_or, length, slice_get, suc, zero, []}
use Rattle.std.proofs.Common.{Some, None, List, ◌∷◌, refl, sym, ap, ◌∙◌, subst, inl, inr}
use Rattle.std.specs.Prelude.{if◌then◌else◌}
use Rattle.std.proofs.lemmas.Bool.{cases_Bool}
use Rattle.std.proofs.lemmas.Option.{get_or_from_slice_get, slice_get_within}
use Rattle.numa_ranges.specs.Runs.{page_at, in_pages, end_of, AreApart}
use Rattle.numa_ranges.specs.declared.run.Run.{Run}
use Rattle.numa_ranges.proofs.Apart.{apart-top}
use Rattle.numa_maps.specs.Residents.{Kept, placed_at}
use Rattle.numa_placed.specs.Spots.{changed_spots, stated_beside, stated_spot, stated_spots}
use Rattle.numa_placed.specs.declared.spot.Spot.{Spot}

stated-twice : (node : ℕ) (spot : Spot) → stated_spot node (stated_spot node spot)
    ≡ stated_spot node spot
stated-twice node spot = refl

-- the pages of a span, where all are mapped
pub stated-all : (is_mapped : ℕ → Bool) (first pages node : ℕ) (spots : ℕ → Spot)
    → ((page : ℕ) → in_pages first pages page ≡ true → is_mapped page ≡ true) → (page : ℕ)
    → changed_spots first pages (stated_spot node) spots page
    ≡ stated_spots is_mapped first pages node spots page
stated-all is_mapped first pages node spots all page =
    elim (cases_Bool (in_pages first pages page)) [
      | inl t ↦ rw (t, all page t) refl
      | inr e ↦ rw e refl
    ]

-- and none of them keeps a frame
pub stated-bare : (is_mapped : ℕ → Bool) (kept : Kept) (first pages node : ℕ) (spots : ℕ → Spot)
    → ((page : ℕ) → in_pages first pages page ≡ true → is_mapped page ≡ true)
    → ((page : ℕ) → in_pages first pages page ≡ true → placed_at kept page ≡ None) → (page : ℕ)
    → changed_spots first pages (stated_spot node) spots page
    ≡ stated_beside is_mapped kept first pages node spots page
stated-bare is_mapped kept first pages node spots all none page =
    elim (cases_Bool (in_pages first pages page)) [
      | inl t ↦ rw (t, all page t, none page t) refl
      | inr e ↦ rw e refl
    ]

module _ {T : Type 0} where
  -- the runs that are left are apart
  pub record AreLeft (runs : List (Run T)) : Type 0 where
    pub low : ℕ
    pub apart : AreApart low runs

  pub left-fits : (before rest : List (Run T)) (run : Run T) → AreLeft before → before ≡ run ∷ rest
      → end_of run ≤ 2 ^ 35
  left-fits before rest run left steps =
      let apart = subst (AreApart left.low) steps left.apart in
      apart-top (end_of run) rest apart.3

  pub left-next : (before rest : List (Run T)) (run : Run T) → AreLeft before → before ≡ run ∷ rest
      → AreLeft rest
  left-next before rest run left steps =
      let apart = subst (AreApart left.low) steps left.apart in
      record { low = end_of run; apart = apart.3 }

  -- the pages that the first of the ranges has were stated to lie on the node: the others are left
  pub stated-step : (first pages node : ℕ) (before rest : List (Run T)) (run : Run T)
      (old new : ℕ → Spot) → before ≡ run ∷ rest
      → ((page : ℕ) → new page ≡ (if in_pages first pages page && in_pages run.first run.pages page
      then stated_spot node (old page) else old page))
      → (page : ℕ) → stated_spots (λ p. is_some (page_at rest p)) first pages node new page
      ≡ stated_spots (λ p. is_some (page_at before p)) first pages node old page
  stated-step first pages node before rest run old new steps says page =
      ap (λ s. if in_pages first pages page && is_some (page_at rest page) then stated_spot node s
      else s) (says page)
      ∙ go (in_pages first pages page) (in_pages run.first run.pages page) (page_at rest page)
      ∙ ap (λ (runs : List (Run T)). stated_spots (λ p. is_some (page_at runs p)) first pages node
      old page) (sym steps)
    where
      go : (a b : Bool) (o : Option (ℕ × T))
          → (if a && is_some o then stated_spot node (if a && b then stated_spot node (old page)
          else old page) else (if a && b then stated_spot node (old page) else old page))
          ≡ (if a && is_some (if b then Some (run.index + (page - run.first), run.value) else o)
          then stated_spot node (old page) else old page)
      go false b o = refl
      go true true None = refl
      go true true (Some p) = stated-twice node (old page)
      go true false None = refl
      go true false (Some p) = refl

  some-at : (runs : List (Run T)) (place : ℕ) (d : Run T) (page : ℕ) → place < length runs
      → in_pages (get_or runs place d).first (get_or runs place d).pages page ≡ true
      → is_some (page_at runs page) ≡ true
  some-at [] place d page within there = absurd (omega arith)
  some-at (run ∷ runs) zero d page within there = rw there refl
  some-at (run ∷ runs) (suc place) d page within there =
      elim (cases_Bool (in_pages run.first run.pages page)) [
        | inl t ↦ rw t refl
        | inr e ↦ rw e (some-at runs place d page (omega arith) there)
      ]

  -- a page of one of the ranges is one of all
  pub in-range : (runs : List (Run T)) (place : ℕ) (run : Run T) (page : ℕ)
      → slice_get runs place ≡ Some run → in_pages run.first run.pages page ≡ true
      → is_some (page_at runs page) ≡ true
  in-range runs place run page is there =
      some-at runs place run page (slice_get_within runs place run is)
      (subst (λ (r : Run T). in_pages r.first r.pages page ≡ true)
      (sym (get_or_from_slice_get runs place run run is)) there)
