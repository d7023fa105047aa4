-- The run that has a page, among runs that rise.
use Rattle.std.proofs.Common.{◌≡◌, ℕ, suc, ◌+◌, ◌-◌, ◌<◌, ◌≤◌, ◌^◌, true, false, Some, List, []}
use Rattle.std.proofs.Common.{◌∷◌, refl, sym, ap, subst, ◌∙◌, arith, inl, inr}
use Rattle.std.specs.Prelude.{Contains, nat_le}
use Rattle.std.specs.Option.{option_map}
use Rattle.std.proofs.lemmas.Bool.{cases_Bool, leb-true, ltb-true}
use Rattle.numa_ranges.specs.Runs.{page_at, in_pages, AreApart, end_of}
use Rattle.numa_ranges.specs.declared.run.Run.{Run}
use Rattle.numa_rules.specs.Reasons.{run_with}

pub in_pages-inside : (first pages page : ℕ) → in_pages first pages page ≡ true
    → (first ≤ page) × (page < first + pages)
in_pages-inside first pages page has = elim (cases_Bool (nat_le first page)) [
  | inl low ↦ (leb-true first page low, ltb-true page (first + pages) (rw low at has))
  | inr high ↦ let none : false ≡ true = rw high at has in absurd (cc)
]

module _ {T : Type 0} where
  -- a run whose pages are so many more than their index is small
  abbrev IsSmall : Run T → Type 0
  IsSmall run = run.index + run.pages ≤ 2 ^ 48

  -- the run has the page
  pub run-has : (runs : List (Run T)) (page : ℕ) (run : Run T) → run_with runs page ≡ Some run
      → in_pages run.first run.pages page ≡ true
  run-has [] page run found = absurd (cc)
  run-has (other ∷ runs) page run found =
      elim (cases_Bool (in_pages other.first other.pages page)) [
        | inl t ↦ let same : other ≡ run = go t in
            subst (λ (r : Run T). in_pages r.first r.pages page ≡ true) same t
        | inr f ↦ run-has runs page run (rw f at found)
      ]
    where
      go : in_pages other.first other.pages page ≡ true → other ≡ run
      go t = let here : Some other ≡ Some run = rw t at found in cc

  -- it is one of the runs
  pub run-among : (runs : List (Run T)) (page : ℕ) (run : Run T) → run_with runs page ≡ Some run
      → Contains runs run
  run-among [] page run found = absurd (cc)
  run-among (other ∷ runs) page run found =
      elim (cases_Bool (in_pages other.first other.pages page)) [
        | inl t ↦ let here : Some other ≡ Some run = rw t at found in (0, omega arith, cc)
        | inr f ↦ let rest : Contains runs run = run-among runs page run (rw f at found) in
            (suc rest.0, omega (arith, rest.1), rest.2)
      ]

  pub run-small : (from : ℕ) (runs : List (Run T)) (page : ℕ) (run : Run T) → AreApart from runs
      → run_with runs page ≡ Some run → run.index + run.pages ≤ 2 ^ 48
  run-small from [] page run apart found = absurd (cc)
  run-small from (other ∷ runs) page run apart found =
      elim (cases_Bool (in_pages other.first other.pages page)) [
        | inl t ↦ let here : Some other ≡ Some run = rw t at found in
            let same : other ≡ run = cc in subst IsSmall same apart.2
        | inr f ↦ run-small (end_of other) runs page run apart.3 (rw f at found)
      ]

  -- what the runs say of the page is what that run says
  pub run-page : (runs : List (Run T)) (page : ℕ)
      → page_at runs page
      ≡ option_map (λ (run : Run T). (run.index + (page - run.first), run.value))
      (run_with runs page)
  run-page [] page = refl
  run-page (run ∷ runs) page = elim (cases_Bool (in_pages run.first run.pages page)) [
    | inl t ↦ rw t refl
    | inr f ↦ rw f (run-page runs page)
  ]

  -- one step of a walk
  pub run-here : (runs rest : List (Run T)) (run : Run T) (page : ℕ) → runs ≡ run ∷ rest
      → in_pages run.first run.pages page ≡ true → run_with runs page ≡ Some run
  run-here runs rest run page opens has = ap (λ l. run_with l page) opens ∙ rw has refl

  pub run-next : (runs rest : List (Run T)) (run : Run T) (page : ℕ) → runs ≡ run ∷ rest
      → in_pages run.first run.pages page ≡ false → run_with rest page ≡ run_with runs page
  run-next runs rest run page opens lacks = sym (ap (λ l. run_with l page) opens ∙ rw lacks refl)
