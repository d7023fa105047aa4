use Rattle.std.proofs.Common.{length, ◌-◌, ◌≡◌, ℕ, ◌<◌, ◌≤◌, get_or}
use Rattle.numa_rows.specs.Searches.{IsChunkOf}
use Rattle.numa_plan.specs.Meaning.{IsNear, first_or}
use Rattle.numa_plan.proofs.plan.Plan.nodes_of.Given as goal

abbrev pub invariant-loop-done : goal.invariant-loop-done
invariant-loop-done l = record {
  within : l.done ≤ length l.pages;
  long : length l.out ≡ length l.pages;
  filled : (k : ℕ) → k < l.done → get_or l.out k 0
      ≡ first_or l.unmapped l.self l.task (get_or l.pages k 0) l.cpu;
  near : IsNear l.self l.task l.near.page l.near.found l.near.rule.now;
  part : IsChunkOf l.self.runs l.walk.part;
}

abbrev pub decreases-loop-done : goal.decreases-loop-done
decreases-loop-done l = length l.pages - l.done
