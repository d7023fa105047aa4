use Rattle.std.proofs.Common.{length}
use Rattle.numa_space.specs.Standing.{SpaceState}
use Rattle.numa_plan.specs.Meaning.{PlanData}
use Rattle.numa_compile.specs.Windows.{WereAdded}
use Rattle.numa_compile.proofs.recompiler.home.take_all_back.Given as goal

abbrev pub invariant-loop-number : goal.invariant-loop-number
invariant-loop-number l = (space : SpaceState) (before : PlanData)
    → WereAdded space before l.initial.added.items l.initial.plan
    → WereAdded space before l.added.items l.plan

abbrev pub decreases-loop-number : goal.decreases-loop-number
decreases-loop-number l = length l.added.items
