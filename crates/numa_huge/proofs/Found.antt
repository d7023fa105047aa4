-- Whether a page of a span is mapped, by the runs that are left.
use Rattle.std.proofs.Common.{◌≡◌, ℕ, ◌+◌, ◌<◌, ◌≤◌, ◌∙◌, Bool, true, false, Some, None, List, []}
use Rattle.std.proofs.Common.{◌∷◌, refl, ap, subst, arith, inl, inr}
use Rattle.std.specs.Prelude.{is_some}
use Rattle.std.proofs.lemmas.Bool.{cases_lt}
use Rattle.numa_ranges.specs.Maps.{any_page}
use Rattle.numa_ranges.specs.Runs.{AreApart, end_of}
use Rattle.numa_ranges.specs.declared.run.Run.{Run}
use Rattle.numa_ranges.proofs.Apart.{in_pages-above, in_pages-true, page_at-before}
use Rattle.numa_ranges.proofs.Pages.{any_page-false, any_page-true}
use Rattle.numa_space.proofs.Homes.{any_page-within}
use Rattle.numa_placed.proofs.Stating.{AreLeft}
use Rattle.numa_huge.specs.Huge.{huge_at}
use Rattle.numa_huge.specs.declared.spot.HugeSpot.{HugeSpot}

abbrev pub left_has : List (Run HugeSpot) → ℕ → ℕ → Bool
left_has runs first n = any_page (λ page. is_some (huge_at runs page)) first n

pub has-none : (first n : ℕ) → left_has [] first n ≡ false
has-none first n =
    any_page-false (λ page. is_some (huge_at [] page)) first n (λ page low high. refl)

-- ---- a page, by the runs that are left

module _ (other : ℕ) (before rest : List (Run HugeSpot)) (run : Run HugeSpot)
    (left : AreLeft before) (steps : before ≡ run ∷ rest) where
  pub at-behind : end_of run ≤ other → huge_at before other ≡ huge_at rest other
  at-behind ends =
      ap (λ (runs : List (Run HugeSpot)). huge_at runs other) steps
      ∙ rw (in_pages-above run.first run.pages other ends) refl

  pub at-within : run.first ≤ other → other < end_of run → huge_at before other ≡ Some run.value
  at-within from ends =
      ap (λ (runs : List (Run HugeSpot)). huge_at runs other) steps
      ∙ rw (in_pages-true run.first run.pages other from ends) refl

  pub at-before : other < run.first → huge_at before other ≡ None
  at-before low =
      let apart = subst (AreApart left.low) steps left.apart in
      ap (λ (runs : List (Run HugeSpot)). huge_at runs other) steps
      ∙ rw (page_at-before run.first (run ∷ rest) other
      (omega arith, apart.1, apart.2, apart.3) low) refl

-- ---- a span

module _ (first n : ℕ) (before rest : List (Run HugeSpot)) (run : Run HugeSpot)
    (left : AreLeft before) (steps : before ≡ run ∷ rest) where
  -- the run ends before the pages begin
  pub has-step : end_of run ≤ first → left_has before first n ≡ left_has rest first n
  has-step ends =
      ap (λ (runs : List (Run HugeSpot)). left_has runs first n) steps
      ∙ any_page-within (λ page. is_some (huge_at (run ∷ rest) page))
      (λ page. is_some (huge_at rest page)) first n
      (λ page low high. rw (in_pages-above run.first run.pages page (omega (arith, ends, low)))
      refl)

  -- it begins behind them
  pub has-behind : first + n ≤ run.first → left_has before first n ≡ false
  has-behind behind =
      let apart = subst (AreApart left.low) steps left.apart in
      ap (λ (runs : List (Run HugeSpot)). left_has runs first n) steps
      ∙ any_page-false (λ page. is_some (huge_at (run ∷ rest) page)) first n
      (λ page low high. rw (page_at-before run.first (run ∷ rest) page
      (omega arith, apart.1, apart.2, apart.3) (omega (arith, high, behind))) refl)

  -- it has one of them
  pub has-here : 0 < n → run.first < first + n → first < end_of run
      → left_has before first n ≡ true
  has-here some begins ends =
      let apart = subst (AreApart left.low) steps left.apart in
      ap (λ (runs : List (Run HugeSpot)). left_has runs first n) steps
      ∙ elim (cases_lt run.first first) [
        | inl l ↦ any_page-true (λ page. is_some (huge_at (run ∷ rest) page)) first n first
            (omega arith) (omega (arith, some))
            (rw (in_pages-true run.first run.pages first (omega (arith, l)) ends) refl)
        | inr g ↦ any_page-true (λ page. is_some (huge_at (run ∷ rest) page)) first n run.first
            g begins
            (rw (in_pages-true run.first run.pages run.first (omega arith)
            (omega (arith, apart.1))) refl)
      ]
