-- Runs whose values stand in a list of their own, each under a number, which is its place there.
use Rattle.std.specs.Prelude.{◌≡◌, ℕ, ◌<◌, ◌≤◌, Option, Some, None}
use Rattle.std.specs.Prelude.{List, [], ◌∷◌, length, slice_get, slice_index_or}
use Rattle.std.specs.List.{flat_map}
use Rattle.numa_ranges.specs.declared.run.Run.{Run}
use Rattle.numa_ranges.specs.declared.row.Row.{Row}

-- the run of a row, if it has a value
abbrev pub run_of_row : {T : Type 0} → Row → Option T → List (Run T)
run_of_row row None = []
run_of_row row (Some value) = record {
  first = row.first;
  pages = row.pages;
  index = row.index;
  value = value;
} ∷ []

-- the run of a row with the value of the row's number
abbrev pub run_of : {T : Type 0} → List T → Row → List (Run T)
run_of values row = run_of_row row (slice_get values row.number)

-- the runs of rows
abbrev pub runs_of : {T : Type 0} → List T → List Row → List (Run T)
runs_of values rows = flat_map (run_of values) rows

-- the number of each row has a value
abbrev pub AreNumbered : {T : Type 0} → List T → List Row → Type 0
AreNumbered values [] = Unit {0}
AreNumbered values (row ∷ rows) = (row.number < length values) × AreNumbered values rows

-- rows, and values under their numbers, that stand for these runs
pub record AreRowsOf {T : Type 0} (values : List T) (rows : List Row) (whole : List (Run T)) :
    Type 0 where
  pub numbered : AreNumbered values rows
  pub runs : runs_of values rows ≡ whole

-- each number means what it meant, and there can be more
pub record IsLonger {T : Type 0} (old new : List T) : Type 0 where
  pub size : length old ≤ length new
  pub same : (number : ℕ) → number < length old → slice_get new number ≡ slice_get old number

-- no value before a place is the one there
abbrev pub IsNewAt : {T : Type 0} → List T → ℕ → Type 0
IsNewAt {T} values place = (k : ℕ) (d : T) → k < place
    → slice_index_or values k d ≡ slice_index_or values place d → ⊥

-- no two values are the same
abbrev pub AreDifferent : {T : Type 0} → List T → Type 0
AreDifferent values = (place : ℕ) → place < length values → IsNewAt values place
