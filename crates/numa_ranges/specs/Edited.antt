-- Rows that an edit makes: each has the value of its number, or what the edit makes of that.
use Rattle.std.specs.Prelude.{◌≡◌, ℕ, ◌+◌, ◌≤◌, ◌^◌, Bool, true, false, Option, Some, None, List}
use Rattle.std.specs.Prelude.{[], ◌∷◌, slice_get}
use Rattle.numa_ranges.specs.declared.run.Run.{Run}
use Rattle.numa_ranges.specs.declared.edited_row.EditedRow.{EditedRow}

-- pages and indexes that end below the last page and index
pub record IsPlaced (first pages index : ℕ) : Type 0 where
  pub last_page : first + pages ≤ 2 ^ 35
  pub last_index : index + pages ≤ 2 ^ 48

abbrev pub IsRowPlaced : EditedRow → Type 0
IsRowPlaced row = IsPlaced row.first row.pages row.index

-- what an edit makes of a value, where it edits it
abbrev pub edited_value : {T : Type 0} → (T → Option T) → Bool → Option T → Option T
edited_value change is_edited None = None
edited_value change true (Some value) = change value
edited_value change false (Some value) = Some value

-- what an edit makes of a value, or else the value
abbrev pub edited_or_kept : {T : Type 0} → (T → Option T) → Bool → T → Option T
edited_or_kept change is_edited value = edited_value change is_edited (Some value)

-- the value of a row
abbrev pub value_of_row : {T : Type 0} → (T → Option T) → List T → EditedRow → Option T
value_of_row change values row = edited_value change row.is_edited (slice_get values row.number)

-- a row has the pages, the indexes and the value of a run
pub record IsEditedRow {T : Type 0} (change : T → Option T) (values : List T) (row : EditedRow)
    (run : Run T) : Type 0 where
  pub first : row.first ≡ run.first
  pub pages : row.pages ≡ run.pages
  pub index : row.index ≡ run.index
  pub value : value_of_row change values row ≡ Some run.value

abbrev pub AreEditedRows : {T : Type 0} → (T → Option T) → List T → List EditedRow → List (Run T)
    → Type 0
AreEditedRows change values [] [] = Unit {0}
AreEditedRows change values [] (run ∷ runs) = ⊥
AreEditedRows change values (row ∷ rows) [] = ⊥
AreEditedRows change values (row ∷ rows) (run ∷ runs) = IsEditedRow change values row run
    × AreEditedRows change values rows runs

-- a row that is still open, if one is, has what such a run has
abbrev pub IsOpen : {T : Type 0} → (T → Option T) → List T → Option EditedRow → Option (Run T)
    → Type 0
IsOpen change values None None = Unit {0}
IsOpen change values None (Some run) = ⊥
IsOpen change values (Some row) None = ⊥
IsOpen change values (Some row) (Some run) = IsEditedRow change values row run
