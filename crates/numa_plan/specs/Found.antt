-- What a search for a page finds.
use Rattle.std.specs.Prelude.{◌≡◌, ℕ, ◌+◌, ◌-◌, ◌^◌, ◌<◌, ◌≤◌, Option, Some}
use Rattle.std.specs.Prelude.{None, IsSome, List, MatchOption, Result, Ok, Err, length}
use Rattle.std.specs.Prelude.{slice_index_or}
use Rattle.std.specs.List.{AllWithin}
use Rattle.numa_ranges.specs.Runs.{page_at}
use Rattle.numa_ranges.specs.declared.run.Run.{Run}
use Rattle.numa_plan.specs.declared.runs.Found.{Found}

-- what the run says of the page that lies so far behind its first page
pub record IsPartOf (run : Run (Option ℕ)) (far : ℕ) (found : Found) : Type 0 where
  pub index : found.index ≡ run.index + far
  pub rule : found.rule ≡ run.value
  pub left : found.left + far ≡ run.pages
  pub some : 0 < found.left

-- the pages from this one on, as far as the run reaches, have the indexes from this one on and the
-- run's rule
pub record IsAt (runs : List (Run (Option ℕ))) (page : ℕ) (found : Found) : Type 0 where
  pub some : 0 < found.left
  pub few : found.index + found.left ≤ 2 ^ 48
  pub low : page + found.left ≤ 2 ^ 35
  pub each : (q : ℕ) → q < found.left → page_at runs (page + q) ≡ Some (found.index + q, found.rule)

abbrev pub IsFound : List (Run (Option ℕ)) → ℕ → Option Found → Type 0
IsFound runs page result = MatchOption result (page_at runs page ≡ None) (λ found.
    IsAt runs page found)

-- what is told of a page: what its run says of it, or how many pages from it on have none
abbrev pub Tells : List (Run (Option ℕ)) → ℕ → Result Found ℕ → Type 0
Tells runs page (Ok found) = IsAt runs page found
Tells runs page (Err count) = (0 < count)
    × ((q : ℕ) → q < count → page_at runs (page + q) ≡ None)

-- the runs before a place begin at the page or before it, and those from the place on behind it;
-- the run before the place begins so far before the page
pub record IsSplit (runs : List (Run (Option ℕ))) (page place far : ℕ) : Type 0 where
  pub within : place ≤ length runs
  pub before : AllWithin (λ run. run.first ≤ page) runs 0 place
  pub behind : AllWithin (λ run. page < run.first) runs place (length runs)
  pub lies : (d : Run (Option ℕ)) → 0 < place → (slice_index_or runs (place - 1) d).first + far
      ≡ page

-- each page of the span has a run
abbrev pub IsMapped : List (Run (Option ℕ)) → ℕ → ℕ → Type 0
IsMapped runs first pages = (page : ℕ) → first ≤ page → page < first + pages →
    IsSome (page_at runs page)

-- a page of the span has no run
abbrev pub HasHole : List (Run (Option ℕ)) → ℕ → ℕ → Type 0
HasHole runs first pages = (page : ℕ) × (first ≤ page) × (page < first + pages)
    × (page_at runs page ≡ None)
