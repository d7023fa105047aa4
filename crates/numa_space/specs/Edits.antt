-- What an edit of a space's ranges answers.
use Rattle.std.specs.Prelude.{◌≡◌, ◌+◌, ◌<◌, ◌≤◌, ◌^◌, ℕ, ◌-◌, ◌&&◌, Bool, nat_lt, is_some, Option}
use Rattle.std.specs.Prelude.{Some, Result}
use Rattle.std.specs.Prelude.{Err, List, MatchOption, MatchResult, None}
use Rattle.numa_mode.specs.Policy.{PolicyRecord}
use Rattle.numa_ranges.specs.Maps.{any_page}
use Rattle.numa_ranges.specs.Runs.{page_at}
use Rattle.numa_ranges.specs.Counts.{range_count}
use Rattle.numa_ranges.specs.declared.run.Run.{Run}
use Rattle.numa_ranges.specs.declared.fault.RangeError.{RangeError}
use Rattle.numa_ranges.specs.declared.fault.RangeError.TheVariants as fault
use Rattle.numa_requests.specs.declared.refusal.Refusal.{Refusal}
use Rattle.numa_requests.specs.declared.refusal.Refusal.TheVariants.{Overlap, Hole, TooManyRanges}
use Rattle.numa_requests.specs.declared.refusal.Refusal.TheVariants.{NoMemory}
use Rattle.numa_space.specs.History.{page_of, page_count}
use Rattle.numa_space.specs.Refusals.{PageMap, when, lacks_pages, has_policy, takes_no_home}
use Rattle.numa_space.specs.declared.page_ranges.PageTest.{PageTest}
use Rattle.numa_space.specs.declared.page_ranges.PageTest.TheVariants.{IsMapped, HasPolicy}
use Rattle.numa_space.specs.declared.page_ranges.PageTest.TheVariants.{TakesNoHome}
use Rattle.numa_space.specs.Same.{same_record}

-- the ranges of a space in rising order, and how many there may be
pub record PageRanges : Type 0 where
  pub runs : List (Run (Option PolicyRecord))
  pub limit : ℕ

-- a map's fault, as a refusal
abbrev pub refusal_from : RangeError → Refusal
refusal_from fault.Hole = Hole
refusal_from fault.Overlap = Overlap
refusal_from fault.TooManyRanges = TooManyRanges
refusal_from fault.NoMemory = NoMemory

abbrev pub too_many : ℕ → PageMap → Option Refusal
too_many limit after = when (nat_lt limit (range_count same_record after)) TooManyRanges

abbrev pub overlap_cause : PageMap → ℕ → ℕ → Option Refusal
overlap_cause pages first count = when (any_page (λ page. is_some (pages page)) first count) Overlap

abbrev pub hole_cause : Bool → PageMap → ℕ → ℕ → Option Refusal
hole_cause passes pages first count = when (lacks_pages passes pages first count) Hole

-- the first cause, or the pages afterwards; lack of memory where there is no cause; unchanged where
-- it is refused
abbrev pub IsEdit : Option Refusal → PageMap → PageRanges → Result (Unit {0}) Refusal → PageRanges
    → Type 0
IsEdit cause after old result new =
    MatchOption cause
    (MatchResult result (λ _. (page : ℕ) → page_at new.runs page ≡ after page)
    (λ refusal. (refusal ≡ NoMemory) × (new ≡ old)))
    (λ first. (result ≡ Err first) × (new ≡ old))

-- the first page of a span and how many it has, where no cause stands against it; else the cause
abbrev pub IsSpanOf : Option Refusal → ℕ → ℕ → Result (ℕ × ℕ) Refusal → Type 0
IsSpanOf cause start bytes result = MatchResult result
    (λ span. (cause ≡ None) × (span.0 ≡ page_of start) × (span.1 ≡ page_count bytes))
    (λ refusal. cause ≡ Some refusal)

-- this many of a span's pages lie below page 2^35: all, unless that end cuts the span
pub record AreMappable (first pages there : ℕ) : Type 0 where
  pub at_most : there ≤ pages
  pub within : 0 < there → first + there ≤ 2 ^ 35
  pub all : first + there < 2 ^ 35 → there ≡ pages

-- whether a page passes a test
abbrev pub passes : PageTest → Option (ℕ × Option PolicyRecord) → Bool
passes IsMapped = is_some
passes HasPolicy = has_policy
passes TakesNoHome = takes_no_home

-- whether a run reaches into the pages from `first` up to `end`, and its pages pass the test
abbrev pub reaches : PageTest → ℕ → ℕ → Run (Option PolicyRecord) → Bool
reaches test first end run = nat_lt run.first end &&
    (nat_lt (first - run.first) run.pages && passes test (Some (0, run.value)))
