-- The rows so far have the runs up to the loop's place.
use Rattle.std.proofs.Common.{◌≡◌, ◌≤◌, List, Option, length, take}
use Rattle.std.specs.Prelude.{vec_capacity, vec_len}
use Rattle.numa_rows.specs.Changes.{Makes}
use Rattle.numa_ranges.specs.Edited.{AreEditedRows}
use Rattle.numa_ranges.specs.Numbered.{AreRowsOf, IsLonger}
use Rattle.numa_ranges.specs.declared.run.Run.{Run}
use Rattle.numa_ranges.proofs.edited_rows.number_rows.Given as goal

abbrev pub invariant-loop-i : goal.invariant-loop-i
invariant-loop-i g l = record {
  longer : IsLonger l.initial.values l.values;
  so_far : (change : g.row.T.Denot → Option g.row.T.Denot) → Makes g.F.Fn l.edit change
      → (runs : List (Run g.row.T.Denot)) → AreEditedRows change l.initial.values l.edited runs
      → AreRowsOf l.values l.rows.items (take l.i runs);
  size : vec_len l.rows ≡ l.i;
  room : length l.edited ≤ vec_capacity l.rows;
}
