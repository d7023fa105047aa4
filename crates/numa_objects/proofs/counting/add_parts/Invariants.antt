-- What is counted, and what the runs that are left will add, is what all runs add.
use Rattle.std.proofs.Common.{◌≡◌, ℕ, ◌+◌, ◌≤◌, List, ◌++◌, length}
use Rattle.numa_mode.specs.Policy.{PolicyRecord}
use Rattle.numa_ranges.specs.Runs.{AreApart}
use Rattle.numa_ranges.specs.declared.run.Run.{Run}
use Rattle.numa_objects.specs.Counting.{parts_by, ranges_with}
use Rattle.numa_objects.proofs.counting.add_parts.Given as goal

abbrev pub invariant-loop-run : goal.invariant-loop-run
invariant-loop-run l = record {
  ranges : (rest : List (Run PolicyRecord))
      → ranges_with l.tally (parts_by l.cut l.run-iterator ++ rest)
      ≡ ranges_with l.initial.tally (parts_by l.cut l.policies.runs ++ rest);
  count : l.tally.count + length l.run-iterator
      ≤ l.initial.tally.count + length l.policies.runs;
  apart : (low : ℕ) × AreApart low l.run-iterator;
}
