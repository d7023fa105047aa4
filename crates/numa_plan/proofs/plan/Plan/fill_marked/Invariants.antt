use Rattle.std.proofs.Common.{length, ◌-◌, ◌+◌, ◌≡◌, ℕ, ◌<◌, ◌≤◌, get_or}
use Rattle.numa_rows.specs.Searches.{IsChunkOf}
use Rattle.numa_plan.specs.Meaning.{first_or}
use Rattle.numa_plan.proofs.plan.Plan.fill_marked.Given as goal

abbrev pub invariant-loop-done : goal.invariant-loop-done
invariant-loop-done l = record {
  within : l.done ≤ l.low;
  long : length l.out ≡ length l.fn.out;
  filled : (k : ℕ) → k < l.done → get_or l.out k 0
      ≡ first_or l.unmapped l.self l.task (l.first + k) l.cpu;
  part : IsChunkOf l.self.runs l.walk.part;
}

abbrev pub decreases-loop-done : goal.decreases-loop-done
decreases-loop-done l = l.low - l.done
