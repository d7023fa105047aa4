use Rattle.std.proofs.Common.{◌-◌}
use Rattle.numa_rows.specs.Searches.{IsChunkOf}
use Rattle.numa_plan.proofs.Telling.{IsBetween}
use Rattle.numa_plan.proofs.runs.PlanRuns.told_apart.Given as goal

abbrev pub invariant-loop-low : goal.invariant-loop-low
invariant-loop-low l = record {
  place : IsBetween l.self l.page l.low l.high l.ahead;
  part : IsChunkOf l.self l.walk.part;
}

abbrev pub decreases-loop-low : goal.decreases-loop-low
decreases-loop-low l = l.high - l.low
