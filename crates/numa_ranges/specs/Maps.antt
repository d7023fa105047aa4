-- A map from pages to an index and a value: what each call makes of it, and why a call is refused.
use Rattle.std.specs.Prelude.{◌≡◌, ℕ, ◌+◌, ◌-◌, ◌^◌, ◌<◌, ◌≤◌, Bool, not, is_some, Option, Some}
use Rattle.std.specs.Prelude.{None, List, nat_lt, if◌then◌else◌}
use Rattle.std.specs.List.{list_any, range_with_len}
use Rattle.numa_ranges.specs.declared.fault.RangeError.{RangeError}
use Rattle.numa_ranges.specs.declared.fault.RangeError.TheVariants.{Hole, Overlap, TooManyRanges}
use Rattle.numa_ranges.specs.declared.fault.RangeError.TheVariants.{NoMemory}
use Rattle.numa_ranges.specs.declared.run.Run.{Run}
use Rattle.numa_ranges.specs.Runs.{in_pages, page_at}
use Rattle.numa_ranges.specs.Counts.{range_count}

-- a span that a call may be about: it has a page, and all of its pages lie below 2^35
pub record IsSpan (first pages : ℕ) : Type 0 where
  pub some : 0 < pages
  pub within : first + pages ≤ 2 ^ 35

-- a list of runs says of each page what the map does
abbrev pub Shows : {T : Type 0} → List (Run T) → (ℕ → Option (ℕ × T)) → Type 0
Shows runs at = (page : ℕ) → page_at runs page ≡ at page

-- the map with the pages of a span mapped, the first of them with this index
abbrev pub with_span : {T : Type 0} → ℕ → ℕ → ℕ → T → (ℕ → Option (ℕ × T)) → ℕ → Option (ℕ × T)
with_span first pages index value at page = if in_pages first pages page
    then Some (index + (page - first), value) else at page

-- the map without the pages of a span
abbrev pub without_span : {T : Type 0} → ℕ → ℕ → (ℕ → Option (ℕ × T)) → ℕ → Option (ℕ × T)
without_span first pages at page = if in_pages first pages page then None else at page

-- a page with its value changed, if it is mapped: its index stays
abbrev pub changed_page : {T : Type 0} → (T → T) → Option (ℕ × T) → Option (ℕ × T)
changed_page change None = None
changed_page change (Some p) = Some (p.0, change p.1)

-- the map with the value of each mapped page of a span changed
abbrev pub changed_span : {T : Type 0} → ℕ → ℕ → (T → T) → (ℕ → Option (ℕ × T)) → ℕ → Option (ℕ × T)
changed_span first pages change at page = if in_pages first pages page
    then changed_page change (at page) else at page

-- whether some page of a span passes the test
unfoldable pub any_page : (ℕ → Bool) → ℕ → ℕ → Bool
any_page test first pages = list_any test (range_with_len first pages)

-- why such a map may not stand
abbrev pub count_refusal : {T : Type 0} → (T → T → Bool) → ℕ → (ℕ → Option (ℕ × T))
    → Option RangeError
count_refusal same max_ranges at = if nat_lt max_ranges (range_count same at)
    then Some TooManyRanges else None

-- why a span may not be mapped
abbrev pub map_refusal : {T : Type 0} → (T → T → Bool) → ℕ → (ℕ → Option (ℕ × T)) → ℕ → ℕ → ℕ → T
    → Option RangeError
map_refusal same max_ranges at first pages index value =
    if any_page (λ page. is_some (at page)) first pages then Some Overlap
    else count_refusal same max_ranges (with_span first pages index value at)

-- why a span may not have another value
abbrev pub set_refusal : {T : Type 0} → (T → T → Bool) → ℕ → (ℕ → Option (ℕ × T)) → ℕ → ℕ → T
    → Option RangeError
set_refusal same max_ranges at first pages value =
    if any_page (λ page. not (is_some (at page))) first pages then Some Hole
    else count_refusal same max_ranges (changed_span first pages (λ old. value) at)

-- how a call is refused: by the first cause that holds, or for lack of memory where none does
abbrev pub IsRefusal : Option RangeError → RangeError → Type 0
IsRefusal None refusal = refusal ≡ NoMemory
IsRefusal (Some cause) refusal = refusal ≡ cause
