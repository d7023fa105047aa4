-- Lists of runs as private functions edit them: cut at the ends of a span, edited inside, and
-- joined.
use Rattle.std.specs.Prelude.{◌≡◌, ℕ, ◌+◌, ◌-◌, ◌<◌, ◌≤◌, ◌^◌, ◌&&◌, Bool, Option, Some, None, List}
use Rattle.std.specs.Prelude.{[], ◌∷◌, ◌++◌, min, max, length, take, drop, option_map, ◌==◌, nat_lt}
use Rattle.std.specs.Prelude.{if◌then◌else◌}
use Rattle.std.specs.Prelude.{slice_index_or, ◌⊎◌}
use Rattle.std.specs.List.{AllWithin, flat_map}
use Rattle.numa_ranges.specs.declared.run.Run.{Run}
use Rattle.numa_ranges.specs.Runs.{in_pages, end_of, page_at, AreApart, AreMaximal}
use Rattle.numa_ranges.specs.Maps.{Shows, count_refusal}
use Rattle.numa_ranges.specs.Ranges.{Ranges}

-- one page, edited: its index stays
abbrev pub edited_page : {T : Type 0} → (T → Option T) → Option (ℕ × T) → Option (ℕ × T)
edited_page edit None = None
edited_page edit (Some p) = option_map (λ value. (p.0, value)) (edit p.1)

-- the map with each mapped page of a span edited
abbrev pub edited_span : {T : Type 0} → ℕ → ℕ → (T → Option T) → (ℕ → Option (ℕ × T)) → ℕ
    → Option (ℕ × T)
edited_span first pages edit at page = if in_pages first pages page then edited_page edit (at page)
    else at page

-- the runs before a place start at the page or before it, and those from there on start after it
abbrev pub StartsAround : {T : Type 0} → List (Run T) → ℕ → ℕ → Type 0
StartsAround runs place page = AllWithin (λ run. run.first ≤ page) runs 0 place
    × AllWithin (λ run. page < run.first) runs place (length runs)

-- whether the second run continues the first, by a test of values
abbrev pub joins : {T : Type 0} → (T → T → Bool) → Run T → Run T → Bool
joins same run next = (next.first == end_of run)
    && ((next.index == run.index + run.pages) && same run.value next.value)

-- a run, with the pages of one that continues it
abbrev pub run_and_next : {T : Type 0} → Run T → Run T → Run T
run_and_next run next = record {
  first = run.first;
  pages = run.pages + next.pages;
  index = run.index;
  value = run.value;
}

-- the runs from `run` on, with each that continues the one before it joined to that
abbrev pub joined_from : {T : Type 0} → (T → T → Bool) → List (Run T) → Run T → List (Run T)
joined_from same [] run = run ∷ []
joined_from same (next ∷ runs) run = if joins same run next
    then joined_from same runs (run_and_next run next) else run ∷ joined_from same runs next

-- the runs, each that continues the one before it joined to that
abbrev pub maximal_runs : {T : Type 0} → (T → T → Bool) → List (Run T) → List (Run T)
maximal_runs same [] = []
maximal_runs same (run ∷ runs) = joined_from same runs run

-- the runs after one that is still open, if one is
abbrev pub joined_after : {T : Type 0} → (T → T → Bool) → Option (Run T) → List (Run T)
    → List (Run T)
joined_after same None runs = maximal_runs same runs
joined_after same (Some open_run) runs = joined_from same runs open_run

-- the part of a run before a page
abbrev pub part_before : {T : Type 0} → ℕ → Run T → List (Run T)
part_before page run = if nat_lt run.first page then record {
  first = run.first;
  pages = min run.pages (page - run.first);
  index = run.index;
  value = run.value;
} ∷ [] else []

-- the part of a run from a page on
abbrev pub part_from : {T : Type 0} → ℕ → Run T → List (Run T)
part_from page run = if nat_lt page (end_of run) then record {
  first = max page run.first;
  pages = end_of run - max page run.first;
  index = run.index + (max page run.first - run.first);
  value = run.value;
} ∷ [] else []

-- a run with another value, or none
abbrev pub with_value : {T : Type 0} → Run T → Option T → List (Run T)
with_value run None = []
with_value run (Some value) = record {
  first = run.first;
  pages = run.pages;
  index = run.index;
  value = value;
} ∷ []

-- the part of a run between two pages, edited
abbrev pub part_within : {T : Type 0} → ℕ → ℕ → (T → Option T) → Run T → List (Run T)
part_within first end edit run = if nat_lt (max first run.first) (min end (end_of run))
    then with_value (record {
      first = max first run.first;
      pages = min end (end_of run) - max first run.first;
      index = run.index + (max first run.first - run.first);
      value = run.value;
    }) (edit run.value) else []

-- a run, cut at both ends of a span and edited inside
abbrev pub parts : {T : Type 0} → ℕ → ℕ → (T → Option T) → Run T → List (Run T)
parts first end edit run = part_before first run
    ++ (part_within first end edit run ++ part_from end run)

-- the runs, edited in a span and not joined
abbrev pub edit_of : {T : Type 0} → ℕ → ℕ → (T → Option T) → List (Run T) → List (Run T)
edit_of first end edit runs = flat_map (parts first end edit) runs

-- the runs with one put in before a place
abbrev pub runs_with : {T : Type 0} → ℕ → Run T → List (Run T) → List (Run T)
runs_with place run runs = take place runs ++ run ∷ drop place runs

-- a run with a changed value
abbrev pub with_new_value : {T : Type 0} → (T → T) → Run T → Run T
with_new_value change run = record {
  first = run.first;
  pages = run.pages;
  index = run.index;
  value = change run.value;
}

-- a run that has the pages and indexes of another, and a value that is made of that one's
pub record IsRevalued {T : Type 0} (Made : T → T → Type 0) (run changed : Run T) : Type 0 where
  pub first : changed.first ≡ run.first
  pub pages : changed.pages ≡ run.pages
  pub index : changed.index ≡ run.index
  pub value : Made run.value changed.value

-- a run that ends below the last page and index
pub record IsInRange {T : Type 0} (run : Run T) : Type 0 where
  pub end : end_of run ≤ 2 ^ 35
  pub index : run.index + run.pages ≤ 2 ^ 48

-- a run that holds a page, and says what its pages are
pub record HoldsPage {T : Type 0} (runs : List (Run T)) (run : Run T) (page : ℕ) : Type 0 where
  pub from : run.first ≤ page
  pub to : page < end_of run
  pub in_range : IsInRange run
  pub pages : (p : ℕ) → run.first ≤ p → p < end_of run
      → page_at runs p ≡ Some (run.index + (p - run.first), run.value)

-- a fact of each run
abbrev pub Each : {T : Type 0} → (Run T → Type 0) → List (Run T) → Type 0
Each P [] = Unit {0}
Each P (run ∷ runs) = P run × Each P runs

-- a place among the runs where a span fits in: the runs before end before it, those from there on
-- begin after it
pub record HasRoom {T : Type 0} (runs : List (Run T)) (place first last : ℕ) : Type 0 where
  pub within : place ≤ length runs
  pub apart : AreApart 0 runs
  pub maximal : AreMaximal runs
  pub before : Each (λ run. (0 < run.pages) × (end_of run ≤ first)) (take place runs)
  pub behind : Each (λ run. (0 < run.pages) × (last < run.first)) (drop place runs)

-- where the window of an edit may begin, if so many runs start at its first page or before it: two
-- runs before that, or at the last of them if it begins before the page
abbrev pub MayBegin : {T : Type 0} → List (Run T) → ℕ → ℕ → ℕ → Type 0
MayBegin {T} runs place first from = (from ≡ place - 2) ⊎ ((from ≡ place - 1) × (0 < place)
    × ((d : Run T) → (slice_index_or runs (place - 1) d).first < first))

-- where it may end, if so many runs start at its end or before it: one run after them, or behind
-- the last of them if it ends after the span
abbrev pub MayEnd : {T : Type 0} → List (Run T) → ℕ → ℕ → ℕ → Type 0
MayEnd {T} runs count end to = (to ≡ min (length runs) (count + 1)) ⊎ ((to ≡ count) × (0 < count)
    × ((d : Run T) → end < end_of (slice_index_or runs (count - 1) d)))

-- the runs from one place to another are those that an edit of a span can change or join, where so
-- many runs start at its first page or before it
pub record IsAround {T : Type 0} (runs : List (Run T)) (place first end from to : ℕ) : Type 0 where
  pub count : ℕ
  pub within : count ≤ length runs
  pub parts : StartsAround runs count end
  pub begins : MayBegin runs place first from
  pub ends : MayEnd runs count end to

-- a range map came to show this map, which it may have
pub record Becomes {T : Type 0} (same : T → T → Bool) (old new : Ranges T)
    (at : ℕ → Option (ℕ × T)) : Type 0 where
  pub shows : Shows new.runs at
  pub accepted : count_refusal same old.max_ranges at ≡ None
