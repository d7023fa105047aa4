use Rattle.std.proofs.Common.{◌≡◌}
use Rattle.std.specs.List.{slice_range}
use Rattle.numa_rows.specs.Searches.{IsChunkOf}
use Rattle.numa_plan.proofs.runs.PlanRuns.gathered.Given as goal

abbrev pub invariant-loop-place : goal.invariant-loop-place
invariant-loop-place l = record {
  gathered : l.runs.items ≡ slice_range l.self l.from l.place;
  part : IsChunkOf l.self l.part;
}
