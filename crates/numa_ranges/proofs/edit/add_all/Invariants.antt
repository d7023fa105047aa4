-- What was gathered so far are the runs up to the loop's place.
use Rattle.std.proofs.Common.{◌≡◌, List, ◌+◌, ◌≤◌, ◌++◌, take, drop}
use Rattle.numa_ranges.specs.declared.run.Run.{Run}
use Rattle.numa_ranges.specs.Gathered.{Gathered}
use Rattle.numa_ranges.proofs.edit.add_all.Given as goal

abbrev pub invariant-loop-k : goal.invariant-loop-k
invariant-loop-k g l = record {
  rest : l.rest ≡ drop l.k l.initial.rest;
  gathered : (added : List (Run g.row.T.Denot)) → Gathered g.T.PartialEq.eq l.initial.pieces added
      → Gathered g.T.PartialEq.eq l.pieces (added ++ take l.k l.initial.rest);
  count : l.pieces.count ≤ l.initial.pieces.count + l.k;
}
