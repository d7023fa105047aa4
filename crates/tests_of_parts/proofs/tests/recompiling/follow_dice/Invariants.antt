use Rattle.numa_compile.specs.Follows.{Follows}
use Rattle.tests_of_parts.proofs.tests.recompiling.follow_dice.Given as goal

-- the plan follows the space
abbrev pub invariant-loop : goal.invariant-loop
invariant-loop g l = Follows l.space l.plan
