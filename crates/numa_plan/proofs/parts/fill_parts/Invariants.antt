use Rattle.std.proofs.Common.{◌≡◌, ℕ, ◌≤◌, ◌<◌, ◌+◌, ◌-◌, ◌%◌, length, get_or}
use Rattle.numa_machine.specs.Sizes.{turn_at}
use Rattle.numa_plan.proofs.parts.fill_parts.Given as goal

abbrev pub invariant-loop-done : goal.invariant-loop-done
invariant-loop-done l = record {
  within : l.done ≤ length l.out;
  filled : (k : ℕ) → k < l.done → get_or l.out k 0
      ≡ get_or l.cycle (turn_at (l.index + k) % length l.cycle) 0;
}

abbrev pub decreases-loop-done : goal.decreases-loop-done
decreases-loop-done l = length l.initial.out - l.done
