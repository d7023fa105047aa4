use Rattle.std.proofs.Common.{◌≡◌, ℕ, ◌≤◌, ◌<◌, ◌+◌}
use Rattle.std.specs.Prelude.{IsSome}
use Rattle.numa_ranges.specs.Runs.{page_at}
use Rattle.numa_rows.specs.Searches.{IsChunkOf}
use Rattle.numa_plan.proofs.runs.PlanRuns.covers.Given as goal

abbrev pub invariant-loop-todo : goal.invariant-loop-todo
invariant-loop-todo l = record {
  place : l.page + l.todo ≡ l.first + l.pages;
  low : l.first ≤ l.page;
  seen : (page : ℕ) → l.first ≤ page → page < l.page → IsSome (page_at l.self page);
  part : IsChunkOf l.self l.walk.part;
}

abbrev pub decreases-loop-todo : goal.decreases-loop-todo
decreases-loop-todo l = l.todo
