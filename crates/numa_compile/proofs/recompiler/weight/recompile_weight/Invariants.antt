use Rattle.std.proofs.Common.{length}
use Rattle.numa_compile.proofs.WeightSteps.{IsRewriting}
use Rattle.numa_compile.proofs.recompiler.weight.recompile_weight.Given as goal

-- how many new rules are left
abbrev pub decreases-loop-rule : goal.decreases-loop-rule
decreases-loop-rule l = length l.rules.items

abbrev pub invariant-loop-rule : goal.invariant-loop-rule
invariant-loop-rule l = IsRewriting l.space l.fn.plan l.fn.steps l.rules.items l.plan l.steps
