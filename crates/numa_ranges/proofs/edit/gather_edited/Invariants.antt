-- What was gathered so far are the edited parts of the rows up to the loop's place.
use Rattle.std.proofs.Common.{◌≡◌, ◌*◌, ◌≤◌, Option, take, drop}
use Rattle.numa_rows.specs.Changes.{Makes}
use Rattle.numa_ranges.specs.Edits.{edit_of}
use Rattle.numa_ranges.specs.Gathered.{AreGathered}
use Rattle.numa_ranges.specs.Numbered.{runs_of}
use Rattle.numa_ranges.proofs.edit.gather_edited.Given as goal

abbrev pub invariant-loop-k : goal.invariant-loop-k
invariant-loop-k g l = record {
  rest : l.rest ≡ drop l.k l.initial.rest;
  gathered : (change : g.row.T.Denot → Option g.row.T.Denot) → Makes g.F.Fn l.edit change
      → AreGathered g.T.PartialEq.eq change l.values l.rows
      (edit_of l.first l.end change (take l.k (runs_of l.values l.initial.rest)));
  count : l.rows.count ≤ 3 * l.k;
}
