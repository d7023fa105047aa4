-- The ranges of a map from pages to an index and a value: its maximal runs, told and counted page
-- by page.
use Rattle.std.specs.Prelude.{◌≡◌, ℕ, ◌+◌, ◌-◌, ◌<◌, ◌≤◌, ◌^◌, ◌&&◌, Bool, true, false, not, zero}
use Rattle.std.specs.Prelude.{suc, is_some, Option, Some, None, ◌==◌, if◌then◌else◌}
use Rattle.numa_ranges.specs.declared.run.Run.{Run}
use Rattle.numa_ranges.specs.Runs.{end_of}

-- whether a page continues the page before it: both are mapped, with consecutive indexes and the
-- same value
abbrev pub goes_on : {T : Type 0} → (T → T → Bool) → Option (ℕ × T) → Option (ℕ × T) → Bool
goes_on same (Some before) (Some here) = (here.0 == before.0 + 1) && same before.1 here.1
goes_on same (Some before) None = false
goes_on same None here = false

-- whether a range begins at the page: it is mapped, and does not go on where the page before it
-- stands
abbrev pub is_start : {T : Type 0} → (T → T → Bool) → (ℕ → Option (ℕ × T)) → ℕ → Bool
is_start same at zero = is_some (at zero)
is_start same at (suc page) = is_some (at (suc page))
    && not (goes_on same (at page) (at (suc page)))

-- how many of n pages from `first` on pass the test
unfoldable pub count_pages : (ℕ → Bool) → ℕ → ℕ → ℕ
count_pages test first zero = 0
count_pages test first (suc n) = (if test first then 1 else 0) + count_pages test (first + 1) n

-- how many ranges there are: as many as pages at which one begins
abbrev pub range_count : {T : Type 0} → (T → T → Bool) → (ℕ → Option (ℕ × T)) → ℕ
range_count same at = count_pages (is_start same at) 0 (2 ^ 35)

-- a run is a range of the map: its indexes run on by one, its values are equal, it begins at its
-- first page, and the page after its last doesn't continue it
pub record IsRange {T : Type 0} (same : T → T → Bool) (at : ℕ → Option (ℕ × T))
    (run : Run T) : Type 0 where
  pub some : 0 < run.pages
  pub pages : (page : ℕ) → run.first ≤ page → page < end_of run
      → at page ≡ Some (run.index + (page - run.first), run.value)
  pub begins : is_start same at run.first ≡ true
  pub ends : goes_on same (at (end_of run - 1)) (at (end_of run)) ≡ false
