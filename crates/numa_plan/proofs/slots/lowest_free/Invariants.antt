use Rattle.numa_plan.specs.Slots.{AreTaken}
use Rattle.numa_plan.proofs.slots.lowest_free.Given as goal

abbrev pub invariant-loop-number : goal.invariant-loop-number
invariant-loop-number l = AreTaken l.slots.items l.number
