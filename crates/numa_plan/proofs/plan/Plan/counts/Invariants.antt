use Rattle.std.proofs.Common.{◌≡◌, ◌≤◌, ◌+◌, ◌-◌, length}
use Rattle.numa_rows.specs.Searches.{IsChunkOf}
use Rattle.numa_plan.specs.Found.{IsMapped}
use Rattle.numa_plan.specs.Meaning.{CountsFirsts}
use Rattle.numa_plan.proofs.plan.Plan.counts.Given as goal

abbrev pub invariant-loop-todo : goal.invariant-loop-todo
invariant-loop-todo l = record {
  place : l.page + l.todo ≡ l.first + l.pages;
  low : l.first ≤ l.page;
  mapped : IsMapped l.self.runs l.first (l.page - l.first);
  counted : CountsFirsts l.self l.task l.first (l.page - l.first) l.cpu l.counts;
  long : length l.counts ≡ 256;
  part : IsChunkOf l.self.runs l.walk.part;
}

abbrev pub decreases-loop-todo : goal.decreases-loop-todo
decreases-loop-todo l = l.todo
