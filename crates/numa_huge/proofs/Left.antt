-- The pages that pass a test, counted by the runs that are left.
use Rattle.std.proofs.Common.{◌≡◌, ℕ, ◌+◌, ◌-◌, ◌<◌, ◌≤◌, ◌&&◌, Bool, false, Option, Some, None}
use Rattle.std.proofs.Common.{List, [], ◌∷◌, refl, ap, ◌∙◌, subst, arith, ◌⊎◌, inl, inr}
use Rattle.std.proofs.lemmas.Bool.{cases_lt}
use Rattle.numa_ranges.specs.Counts.{count_pages}
use Rattle.numa_ranges.specs.Runs.{AreApart, end_of, in_pages, page_at}
use Rattle.numa_ranges.specs.declared.run.Run.{Run}
use Rattle.numa_ranges.proofs.Apart.{in_pages-above, in_pages-below, in_pages-true, page_at-before}
use Rattle.numa_ranges.proofs.Counted.{count-none}
use Rattle.numa_placed.proofs.Owned.{count-apart-from}
use Rattle.numa_placed.proofs.Shared.{IsShared, count-shared, count-unshared}
use Rattle.numa_placed.proofs.Stating.{AreLeft}
use Rattle.numa_placed.proofs.Summed.{count-run}
use Rattle.numa_huge.specs.Huge.{huge_at}
use Rattle.numa_huge.specs.Shared.{pages_if, part_where}
use Rattle.numa_huge.specs.declared.spot.HugeSpot.{HugeSpot}

-- how many pages pass a test, by the runs that are left
abbrev pub left_where : (Option HugeSpot → Bool) → List (Run HugeSpot) → ℕ → ℕ → ℕ
left_where test runs first n = count_pages (λ page. test (huge_at runs page)) first n

module _ (test : Option HugeSpot → Bool) (nowhere : test None ≡ false) (first n : ℕ) where
  pub left-none : left_where test [] first n ≡ 0
  left-none = count-none (λ page. test (huge_at [] page)) first n (λ page low high. nowhere)

  pub left-next : (run : Run HugeSpot) (rest : List (Run HugeSpot)) → AreApart (end_of run) rest
      → left_where test (run ∷ rest) first n
      ≡ part_where test run first n + left_where test rest first n
  left-next run rest apart =
      count-apart-from (λ page. test (huge_at (run ∷ rest) page))
      (λ page. in_pages run.first run.pages page && test (Some run.value))
      (λ page. test (huge_at rest page)) first n split
    where
      split : (page : ℕ) → first ≤ page
          → ((test (huge_at (run ∷ rest) page)
          ≡ (in_pages run.first run.pages page && test (Some run.value)))
          × (test (huge_at rest page) ≡ false))
          ⊎ ((test (huge_at (run ∷ rest) page) ≡ test (huge_at rest page))
          × ((in_pages run.first run.pages page && test (Some run.value)) ≡ false))
      split page low = elim (cases_lt page (end_of run)) [
        | inl l ↦
            let gone : page_at rest page ≡ None =
            page_at-before (end_of run) rest page apart l in
            elim (cases_lt page run.first) [
              | inl m ↦ inr (
                rw (in_pages-below run.first run.pages page m) refl,
                rw (in_pages-below run.first run.pages page m) refl,
              )
              | inr m ↦ inl (
                rw (in_pages-true run.first run.pages page m l) refl,
                rw gone nowhere,
              )
            ]
        | inr g ↦ inr (
          rw (in_pages-above run.first run.pages page g) refl,
          rw (in_pages-above run.first run.pages page g) refl,
        )
      ]

  -- runs behind the pages have none of them
  pub left-over : (from : ℕ) (runs : List (Run HugeSpot)) → AreApart from runs → first + n ≤ from
      → left_where test runs first n ≡ 0
  left-over from runs apart behind =
      count-none (λ page. test (huge_at runs page)) first n
      (λ page low high. rw (page_at-before from runs page apart (omega (arith, high, behind)))
      nowhere)

  -- the same, as a loop steps
  pub left-step : (before rest : List (Run HugeSpot)) (run : Run HugeSpot) → AreLeft before
      → before ≡ run ∷ rest → left_where test before first n
      ≡ part_where test run first n + left_where test rest first n
  left-step before rest run left steps =
      let apart = subst (AreApart left.low) steps left.apart in
      ap (λ (runs : List (Run HugeSpot)). left_where test runs first n) steps
      ∙ left-next run rest apart.3

  pub left-behind : (before rest : List (Run HugeSpot)) (run : Run HugeSpot) → AreLeft before
      → before ≡ run ∷ rest → first + n ≤ run.first → left_where test before first n ≡ 0
  left-behind before rest run left steps behind =
      let apart = subst (AreApart left.low) steps left.apart in
      ap (λ (runs : List (Run HugeSpot)). left_where test runs first n) steps
      ∙ left-over run.first (run ∷ rest) (omega arith, apart.1, apart.2, apart.3) behind

-- the pages that a run shares with others
pub shared-part : (test : Option HugeSpot → Bool) (run : Run HugeSpot) (first n from to : ℕ)
    → IsShared run.first run.pages first n from to → from < to
    → part_where test run first n ≡ pages_if (test (Some run.value)) (to - from)
shared-part test run first n from to both rises =
    count-shared run.first run.pages first n from to both (λ page. test (Some run.value)) rises
    ∙ count-run (λ page. test (Some run.value)) (test (Some run.value)) from (to - from)
    (λ page low high. refl)

pub unshared-part : (test : Option HugeSpot → Bool) (run : Run HugeSpot) (first n from to : ℕ)
    → IsShared run.first run.pages first n from to → to ≤ from → part_where test run first n ≡ 0
unshared-part test run first n from to both falls =
    count-unshared run.first run.pages first n from to both (λ page. test (Some run.value)) falls
