-- The kept runs, then the open one joined with those ahead, are the joined form of all.
use Rattle.std.proofs.Common.{◌≡◌, ◌<◌, ◌++◌, Some, take, drop, length}
use Rattle.std.specs.Prelude.{slice_get}
use Rattle.numa_ranges.specs.Edits.{IsInRange, maximal_runs, joined_from}
use Rattle.numa_ranges.specs.Numbered.{AreNumbered, runs_of}
use Rattle.numa_ranges.proofs.join.join_in_place.Given as goal

abbrev pub invariant-loop-i : goal.invariant-loop-i
invariant-loop-i g l = record {
  some : 0 < length l.initial.rows;
  behind : l.kept < l.i;
  size : length l.rows ≡ length l.initial.rows;
  numbered : AreNumbered l.values l.rows;
  number : slice_get l.values l.number ≡ Some l.last.value;
  ahead : drop l.i (runs_of l.values l.rows) ≡ drop l.i (runs_of l.values l.initial.rows);
  so_far : take l.kept (runs_of l.values l.rows)
      ++ joined_from g.T.PartialEq.eq (drop l.i (runs_of l.values l.initial.rows)) l.last
      ≡ maximal_runs g.T.PartialEq.eq (runs_of l.values l.initial.rows);
  in_range : IsInRange l.last;
}
