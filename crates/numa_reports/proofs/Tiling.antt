-- Pages that are counted range by range.
use Rattle.std.proofs.Common.{◌≡◌, ℕ, ◌+◌, ◌-◌, ◌≤◌, ◌^◌, Bool, false, None, List, [], ◌∷◌}
use Rattle.std.proofs.Common.{refl, sym, ap, ◌∙◌, arith, inl, inr, length}
use Rattle.std.specs.Prelude.{sum_by}
use Rattle.std.proofs.lemmas.Bool.{cases_Bool}
use Rattle.std.proofs.lemmas.List.Sums.{sum_by-cons}
use Rattle.numa_ranges.specs.Counts.{count_pages}
use Rattle.numa_ranges.specs.Runs.{AreApart, end_of, page_at}
use Rattle.numa_ranges.specs.declared.run.Run.{Run}
use Rattle.numa_ranges.proofs.Apart.{apart-top, in_pages-above, in_pages-below, page_at-before}
use Rattle.numa_ranges.proofs.Counted.{count-none, count-split}
use Rattle.numa_plan.proofs.CountLemmas.{count-most}
use Rattle.numa_space.specs.Pages.{is_mapped, page_in}
use Rattle.numa_space.specs.Standing.{SpaceState, StandsFor}
use Rattle.numa_requests.specs.declared.command.Command.{Command}

-- how many pages of the runs pass the test, run by run
abbrev pub count_runs : {T : Type 0} → (ℕ → Bool) → List (Run T) → ℕ
count_runs test runs = sum_by (λ run. count_pages test run.first run.pages) runs

pub runs-none : {T : Type 0} (test : ℕ → Bool) (runs : List (Run T)) → length runs ≡ 0
    → count_runs test runs ≡ 0
runs-none test [] e = refl
runs-none test (run ∷ runs) e = absurd (omega arith)

-- no more than there are pages
pub runs-most : {T : Type 0} (test : ℕ → Bool) (from : ℕ) (runs : List (Run T)) → AreApart from runs
    → from + count_runs test runs ≤ 2 ^ 35
runs-most test from [] apart = omega (arith, apart)
runs-most test from (run ∷ runs) apart =
    let rest : end_of run + count_runs test runs ≤ 2 ^ 35 =
    runs-most test (end_of run) runs apart.3 in
    omega (
      arith,
      rest,
      apart.0,
      count-most test run.first run.pages,
      sum_by-cons (λ run. count_pages test run.first run.pages) run runs,
    )

-- where no page outside the runs passes, the pages of the runs are all that pass
pub count-runs : {T : Type 0} (test : ℕ → Bool) (from n : ℕ) (runs : List (Run T))
    → AreApart from runs → from + n ≡ 2 ^ 35
    → ((page : ℕ) → from ≤ page → page_at runs page ≡ None → test page ≡ false)
    → count_runs test runs ≡ count_pages test from n
count-runs test from n [] apart all none =
    sym (count-none test from n (λ page low high. none page low refl))
count-runs test from n (run ∷ runs) apart all none =
    let room : end_of run ≤ 2 ^ 35 = apart-top (end_of run) runs apart.3 in
    let hole = run.first - from in
    let tail = 2 ^ 35 - end_of run in
    let cut1 : count_pages test from n ≡ count_pages test from hole + count_pages test (from + hole)
    (run.pages + tail) = count-split test from hole (run.pages + tail) n
    (omega (arith, apart.0)) in
    let cut2 : count_pages test run.first (run.pages + tail) ≡ count_pages test run.first run.pages
    + count_pages test (run.first + run.pages) tail = count-split test run.first run.pages tail
    (run.pages + tail) refl in
    let before : count_pages test from hole ≡ 0 =
    count-none test from hole
    (λ page low high.
    none page low (rw (in_pages-below run.first run.pages page (omega (arith, apart.0)))
    (page_at-before (end_of run) runs page apart.3 (omega (arith, apart.0))))) in
    let behind : count_runs test runs ≡ count_pages test (end_of run) tail =
    count-runs test (end_of run) tail runs apart.3 (omega arith)
    (λ page low miss. none page (omega (arith, apart.0))
    (rw (in_pages-above run.first run.pages page low) miss)) in
    let seam : count_pages test (from + hole) (run.pages + tail) ≡ count_pages test run.first
    (run.pages + tail) = ap (λ a. count_pages test a (run.pages + tail))
    (let e : from + hole ≡ run.first = omega (arith, apart.0) in e) in
    omega (
      arith,
      cut1,
      cut2,
      before,
      behind,
      seam,
      sum_by-cons (λ run. count_pages test run.first run.pages) run runs,
    )

-- a page that no range has isn't mapped
pub not-mapped : (space : SpaceState) (history : List Command) (page : ℕ) → StandsFor space history
    → page_at space.ranges page ≡ None → is_mapped history page ≡ false
not-mapped space history page stands missing =
    elim (cases_Bool (is_mapped history page)) [
      | inl t ↦
          let none : page_in space.machine history page ≡ None = sym (stands.pages page)
          ∙ missing in
          absurd (let odd = rw t at none in cc)
      | inr f ↦ f
    ]
