use Rattle.std.proofs.Common.{◌-◌, length}
use Rattle.numa_rows.specs.Searches.{IsChunkOf}
use Rattle.numa_plan.proofs.NearWindows.{IsLookedAt}
use Rattle.numa_plan.proofs.runs.PlanRuns.window_from.Given as goal

abbrev pub invariant-loop-to : goal.invariant-loop-to
invariant-loop-to l = record {
  looked : IsLookedAt l.self l.first l.end l.start l.from l.to;
  part : IsChunkOf l.self l.part;
}

abbrev pub decreases-loop-to : goal.decreases-loop-to
decreases-loop-to l = length l.self - l.to
