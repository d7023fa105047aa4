-- What was gathered and what is left are all runs.
use Rattle.std.proofs.Common.{◌≡◌, ◌≤◌, ◌+◌, ◌++◌, length}
use Rattle.std.specs.Prelude.{vec_capacity}
use Rattle.numa_ranges.proofs.runs.gathered.Given as goal

abbrev pub invariant-loop-run : goal.invariant-loop-run
invariant-loop-run g l = record {
  whole : l.all.items ++ l.run-iterator ≡ l.runs;
  room : length l.all.items + length l.run-iterator ≤ vec_capacity l.all;
}
