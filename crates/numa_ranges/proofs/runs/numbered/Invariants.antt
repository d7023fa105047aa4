-- The rows so far have the runs up to the loop's place.
use Rattle.std.proofs.Common.{◌≡◌, ◌≤◌, length, take}
use Rattle.std.specs.Prelude.{vec_capacity, vec_len}
use Rattle.numa_ranges.specs.Numbered.{AreNumbered, IsLonger, runs_of}
use Rattle.numa_ranges.proofs.runs.numbered.Given as goal

abbrev pub invariant-loop-i : goal.invariant-loop-i
invariant-loop-i g l = record {
  longer : IsLonger l.initial.values l.values;
  numbered : AreNumbered l.values l.rows.items;
  so_far : runs_of l.values l.rows.items ≡ take l.i l.runs;
  size : vec_len l.rows ≡ l.i;
  room : length l.runs ≤ vec_capacity l.rows;
}
