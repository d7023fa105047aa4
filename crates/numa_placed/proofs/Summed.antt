-- How many pages of runs pass a test, and of pages that pass together.
use Rattle.std.proofs.Common.{◌≡◌, ℕ, zero, suc, ◌+◌, ◌<◌, ◌≤◌, ◌^◌, Bool, true, false}
use Rattle.std.proofs.Common.{List, [], ◌∷◌, refl, arith}
use Rattle.numa_ranges.specs.Counts.{count_pages}
use Rattle.numa_ranges.specs.Runs.{end_of, AreApart}
use Rattle.numa_ranges.specs.declared.run.Run.{Run}
use Rattle.numa_ranges.proofs.Counted.{count-none}
use Rattle.numa_placed.specs.Spots.{pages_if}
use Rattle.numa_placed.specs.declared.spot.Spot.{Spot}

-- how many pages of some runs pass
abbrev pub run_pages : (Spot → Bool) → List (Run Spot) → ℕ
run_pages test [] = 0
run_pages test (run ∷ runs) = pages_if (test run.value) run.pages + run_pages test runs

pub pages_if-le : (passes : Bool) (pages : ℕ) → pages_if passes pages ≤ pages
pages_if-le true pages = omega arith
pages_if-le false pages = omega arith

-- they are at most the pages from the first run on
pub run_pages-le : (test : Spot → Bool) (from : ℕ) (runs : List (Run Spot)) → AreApart from runs
    → run_pages test runs + from ≤ 2 ^ 35
run_pages-le test from [] apart = omega (arith, apart)
run_pages-le test from (run ∷ runs) apart =
    omega (
      arith,
      run_pages-le test (end_of run) runs apart.3,
      pages_if-le (test run.value) run.pages,
      apart.0,
    )

pub count-all : (test : ℕ → Bool) (a n : ℕ) → ((p : ℕ) → a ≤ p → p < a + n → test p ≡ true)
    → count_pages test a n ≡ n
unfolding count_pages
count-all test a zero h = refl
count-all test a (suc n) h =
    rw (h a (omega arith) (omega arith))
    (omega (arith, count-all test (a + 1) n (λ p low high. h p (omega arith) (omega arith))))

-- the pages of a run pass together
pub count-run : (test : ℕ → Bool) (passes : Bool) (a n : ℕ)
    → ((p : ℕ) → a ≤ p → p < a + n → test p ≡ passes) → count_pages test a n ≡ pages_if passes n
count-run test true a n h = count-all test a n h
count-run test false a n h = count-none test a n h
