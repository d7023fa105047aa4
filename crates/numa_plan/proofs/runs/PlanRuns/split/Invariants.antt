use Rattle.std.proofs.Common.{◌≡◌, ◌-◌, length}
use Rattle.numa_rows.specs.Searches.{IsChunkOf}
use Rattle.numa_plan.proofs.Searching.{IsNarrowed, IsSparing}
use Rattle.numa_plan.proofs.runs.PlanRuns.split.Given as goal

abbrev pub invariant-loop-low : goal.invariant-loop-low
invariant-loop-low l = record {
  place : IsNarrowed l.self l.page l.low l.high l.far;
  cost : IsSparing l.fn.steps.comparisons l.steps.comparisons (l.high - l.low) (length l.self);
  no_run : l.steps.runs ≡ l.fn.steps.runs;
  no_rule : l.steps.rules ≡ l.fn.steps.rules;
  part : IsChunkOf l.self l.part;
}

abbrev pub decreases-loop-low : goal.decreases-loop-low
decreases-loop-low l = l.high - l.low
