-- Placements that are kept one by one: what is kept, and then what is left, are all.
use Rattle.std.proofs.Common.{◌≡◌, ◌≢◌, ℕ, ◌==◌, ◌≤◌, true, false, Option, Some, None, List, []}
use Rattle.std.proofs.Common.{◌∷◌, ◌++◌, length, refl, sym, ap, subst, ◌∙◌, arith, inl, inr}
use Rattle.std.specs.Prelude.{IsSome}
use Rattle.std.proofs.lemmas.Bool.{cases_Bool, eqb-true, eq-eqb}
use Rattle.std.proofs.lemmas.List.{append-nil}
use Rattle.numa_requests.specs.declared.placement.Placement.{Placement}
use Rattle.numa_maps.specs.Residents.{Kept, placed_at}
use Rattle.numaplan_c.specs.Ranges.{RefusesPlaced, one_or_none, placed_on, placement_of}
use Rattle.numaplan_c.specs.declared.listings.MapsRefusal.{MapsRefusal}
use Rattle.numaplan_c.specs.declared.listings.MapsRefusal.TheVariants as refused
use Rattle.numaplan_c.specs.declared.events.NpPlacement.{NpPlacement}

own-first : (p : NpPlacement) (rest : List NpPlacement) → placed_on p.page (p ∷ rest)
    ≡ placement_of p ∷ placed_on p.page rest
own-first p rest = let own : (p.page == p.page) ≡ true = eq-eqb p.page p.page refl in rw own refl

other-first : (p : NpPlacement) (rest : List NpPlacement) (page : ℕ) → (p.page == page) ≡ false
    → placed_on page (p ∷ rest) ≡ placed_on page rest
other-first p rest page other = rw other refl

-- all placements of each page are the one that is kept, and those that are left
pub KeepsSoFar : List NpPlacement → Kept → List NpPlacement → Type 0
KeepsSoFar all kept left = (page : ℕ) → placed_on page all ≡ one_or_none (placed_at kept page)
    ++ placed_on page left

pub none-kept : (all : List NpPlacement) → KeepsSoFar all [] all
unfolding KeepsSoFar
none-kept all page = refl

pub all-kept : (all : List NpPlacement) (kept : Kept) → KeepsSoFar all kept [] → (page : ℕ)
    → placed_on page all ≡ one_or_none (placed_at kept page)
unfolding KeepsSoFar
all-kept all kept so page = so page ∙ append-nil (one_or_none (placed_at kept page))

pub one-more : (all : List NpPlacement) (old new : Kept) (left rest : List NpPlacement)
    (p : NpPlacement) → left ≡ p ∷ rest → placed_at old p.page ≡ None
    → placed_at new p.page ≡ Some (placement_of p)
    → ((page : ℕ) → page ≢ p.page → placed_at new page ≡ placed_at old page)
    → KeepsSoFar all old left → KeepsSoFar all new rest
unfolding KeepsSoFar
one-more all old new left rest p is free kept others so page =
    elim (cases_Bool (p.page == page)) [
      | inl t ↦ subst (λ (q : ℕ). placed_on q all ≡ one_or_none (placed_at new q)
          ++ placed_on q rest) (eqb-true p.page page t)
          (so p.page
          ∙ (ap (λ o. one_or_none o ++ placed_on p.page left) free
          ∙ (ap (placed_on p.page) is
          ∙ (own-first p rest ∙ sym (ap (λ o. one_or_none o ++ placed_on p.page rest) kept)))))
      | inr f ↦ let apart : page ≢ p.page = λ e. let odd : true ≡ false =
          sym (eq-eqb p.page page (sym e)) ∙ f in cc in
          so page ∙ (ap (λ l. one_or_none (placed_at old page) ++ placed_on page l) is
          ∙ (ap (λ l. one_or_none (placed_at old page) ++ l) (other-first p rest page f)
          ∙ ap (λ o. one_or_none o ++ placed_on page rest) (sym (others page apart))))
    ]

-- one that is left is of a page that has one
pub two-placed : (all : List NpPlacement) (kept : Kept) (left rest : List NpPlacement)
    (p : NpPlacement) → left ≡ p ∷ rest → IsSome (placed_at kept p.page) → KeepsSoFar all kept left
    → 2 ≤ length (placed_on p.page all)
unfolding KeepsSoFar
two-placed all kept left rest p is some so =
    let first : placed_on p.page all ≡ one_or_none (placed_at kept p.page)
    ++ (placement_of p ∷ placed_on p.page rest) =
    so p.page ∙ ap (λ l. one_or_none (placed_at kept p.page) ++ l)
    (ap (placed_on p.page) is ∙ own-first p rest) in
    subst (λ (l : List Placement). 2 ≤ length l) (sym first)
    (two (placed_at kept p.page) (placement_of p) (placed_on p.page rest) some)
  where
    two : (there : Option Placement) (second : Placement) (others : List Placement) → IsSome there
        → 2 ≤ length (one_or_none there ++ (second ∷ others))
    two None second others some = absurd (let odd : false ≡ true = some in cc)
    two (Some first) second others some = omega arith

pub are-refused : (all : List NpPlacement) (page : ℕ) (refusal : MapsRefusal)
    → (refusal ≡ refused.Twice → 2 ≤ length (placed_on page all)) → RefusesPlaced all refusal
are-refused all page refused.Twice twice = (page, twice refl)
are-refused all page refused.NoMemory twice = tt
