-- The policies of tasks as they are kept: each task has a number, which is the place of its record
-- in a list that tasks share.
use Rattle.std.specs.Prelude.{ℕ, ◌<◌, false, None, List, [], ◌∷◌, map, slice_index_or}
use Rattle.numa_mode.specs.Policy.{PolicyRecord}
use Rattle.numa_mode.specs.declared.modes.Mode.TheVariants.{Local}
use Rattle.numa_mode.specs.declared.modes.NodeFlag.TheVariants.{Plain}

-- what a number that no record has would mean
abbrev pub no_record : PolicyRecord
no_record = record {
  spec = record { mode = Local; flag = Plain; mask = 0 };
  effective = 0;
  home = None;
  of_object = false;
}

-- a task and its number, with the record in the place of the number
abbrev pub with_record : List PolicyRecord → ℕ × ℕ → ℕ × PolicyRecord
with_record records held = (held.0, slice_index_or records held.1 no_record)

-- the tasks with their records
abbrev pub with_records : List PolicyRecord → List (ℕ × ℕ) → List (ℕ × PolicyRecord)
with_records records = map (with_record records)

-- the number of each task has a record
abbrev pub HaveRecords : ℕ → List (ℕ × ℕ) → Type 0
HaveRecords count [] = Unit {0}
HaveRecords count (held ∷ tasks) = (held.1 < count) × HaveRecords count tasks
