-- Counting ranges as runs come, the lowest first.
use Rattle.std.specs.Prelude.{ℕ, ◌+◌, Option, Some, None, List, [], ◌∷◌, ◌++◌, length}
use Rattle.numa_mode.specs.Policy.{PolicyRecord}
use Rattle.numa_ranges.specs.Edits.{joined_after, part_before, part_from}
use Rattle.numa_ranges.specs.declared.run.Run.{Run}
use Rattle.numa_objects.specs.Same.{same_policy}
use Rattle.numa_objects.specs.declared.counting.Cut.{Cut}
use Rattle.numa_objects.specs.declared.counting.Cut.TheVariants as cut
use Rattle.numa_objects.specs.declared.tally.Tally.{Tally}

-- how many ranges there are, once these runs came too
abbrev pub ranges_with : Tally → List (Run PolicyRecord) → ℕ
ranges_with tally rest = tally.count + length (joined_after same_policy tally.last rest)

-- what a run has before a place, or from it on
abbrev pub part_by : Cut → Run PolicyRecord → List (Run PolicyRecord)
part_by (cut.Before first) run = part_before first run
part_by (cut.From end) run = part_from end run

-- the same of all
abbrev pub parts_by : Cut → List (Run PolicyRecord) → List (Run PolicyRecord)
parts_by at [] = []
parts_by at (run ∷ runs) = part_by at run ++ parts_by at runs

abbrev pub befores : ℕ → List (Run PolicyRecord) → List (Run PolicyRecord)
befores first runs = parts_by (cut.Before first) runs

abbrev pub behinds : ℕ → List (Run PolicyRecord) → List (Run PolicyRecord)
behinds end runs = parts_by (cut.From end) runs

-- the run of a span with a policy, if it has one
abbrev pub bound_run : ℕ → ℕ → Option PolicyRecord → List (Run PolicyRecord)
bound_run first pages None = []
bound_run first pages (Some r) = record {
  first = first;
  pages = pages;
  index = first;
  value = r;
} ∷ []

-- the runs, where a span has this policy now, or none
abbrev pub overwritten : ℕ → ℕ → Option PolicyRecord → List (Run PolicyRecord)
    → List (Run PolicyRecord)
overwritten first pages policy runs = befores first runs
    ++ (bound_run first pages policy ++ behinds (first + pages) runs)
