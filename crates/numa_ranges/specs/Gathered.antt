-- Runs that were gathered one by one, and joined as they came.
use Rattle.std.specs.Prelude.{◌≡◌, Bool, false, Option, List, ◌++◌, length}
use Rattle.numa_ranges.specs.declared.run.Run.{Run}
use Rattle.numa_ranges.specs.declared.pieces.Pieces.{Pieces}
use Rattle.numa_ranges.specs.declared.edited_rows.EditedRows.{EditedRows}
use Rattle.numa_ranges.specs.Edits.{maximal_runs, joined_after}
use Rattle.numa_ranges.specs.Edited.{AreEditedRows, IsOpen}

-- the closed runs and the open one are the joined form of the runs that were added
pub record Gathered {T : Type 0} (same : T → T → Bool) (pieces : Pieces T)
    (added : List (Run T)) : Type 0 where
  pub closed : List (Run T)
  pub count : pieces.count ≡ length closed
  pub kept : pieces.is_refused ≡ false → pieces.closed.items ≡ closed
  pub so_far : (rest : List (Run T)) → maximal_runs same (added ++ rest) ≡ closed
      ++ joined_after same pieces.open_run rest

-- the closed rows and the open one have the joined form of the runs that were added
pub record AreGathered {T : Type 0} (same : T → T → Bool) (change : T → Option T) (values : List T)
    (rows : EditedRows) (added : List (Run T)) : Type 0 where
  pub closed : List (Run T)
  pub open_run : Option (Run T)
  pub count : rows.count ≡ length closed
  pub kept : rows.is_refused ≡ false → AreEditedRows change values rows.closed.items closed
  pub opened : IsOpen change values rows.open_row open_run
  pub so_far : (rest : List (Run T)) → maximal_runs same (added ++ rest) ≡ closed
      ++ joined_after same open_run rest
