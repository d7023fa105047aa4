-- A span of pages among the runs of a list: which runs it meets or is adjacent to, and what stays
-- of the list if only pages of the span change. A span is given by its first page and its end, the
-- page after its last.
use Rattle.std.specs.Prelude.{◌≡◌, ℕ, ◌-◌, ◌<◌, ◌≤◌, ◌&&◌, Bool, List, length, take, drop, nat_lt}
use Rattle.std.specs.Prelude.{nat_le, count_by}
use Rattle.std.specs.List.{AllWithin}
use Rattle.numa_ranges.specs.declared.run.Run.{Run}
use Rattle.numa_ranges.specs.Runs.{end_of, page_at}

-- whether a run has a page of the span
abbrev pub meets : {T : Type 0} → ℕ → ℕ → Run T → Bool
meets first end run = nat_lt run.first end && nat_lt first (end_of run)

-- whether a run's first page is in the span
abbrev pub begins_in : {T : Type 0} → ℕ → ℕ → Run T → Bool
begins_in first end run = nat_le first run.first && nat_lt run.first end

-- how many runs have a page of the span
abbrev pub met : {T : Type 0} → ℕ → ℕ → List (Run T) → ℕ
met first end runs = count_by (meets first end) runs

-- how many runs begin in the span
abbrev pub starts_in : {T : Type 0} → ℕ → ℕ → List (Run T) → ℕ
starts_in first end runs = count_by (begins_in first end) runs

-- the places of the runs that meet the span or stand right beside it: those before `from` end
-- before its first page, and those from `to` on begin after its end
pub record IsWindow {T : Type 0} (runs : List (Run T)) (first end from to : ℕ) : Type 0 where
  pub rises : from ≤ to
  pub within : to ≤ length runs
  pub before : AllWithin (λ run. end_of run < first) runs 0 from
  pub reaching : AllWithin (λ run. first ≤ end_of run) runs from (length runs)
  pub beginning : AllWithin (λ run. run.first ≤ end) runs 0 to
  pub behind : AllWithin (λ run. end < run.first) runs to (length runs)

-- two lists say the same of each page outside the span
pub record AgreeOutside {T : Type 0} (first end : ℕ) (old new : List (Run T)) : Type 0 where
  pub below : (page : ℕ) → page < first → page_at old page ≡ page_at new page
  pub behind : (page : ℕ) → end ≤ page → page_at old page ≡ page_at new page

-- the place of the new list that a place of the old one has become, counted from the last run
abbrev pub to_now : {T : Type 0} → List (Run T) → List (Run T) → ℕ → ℕ
to_now old new to = length new - (length old - to)

-- the two lists differ in a window alone: the runs before it are the same, and those after it have
-- only moved
pub record Moves {T : Type 0} (old new : List (Run T)) (from to : ℕ) : Type 0 where
  pub front : take from new ≡ take from old
  pub back : drop (to_now old new to) new ≡ drop to old
  pub rises : from ≤ to_now old new to
  pub within : to_now old new to ≤ length new
