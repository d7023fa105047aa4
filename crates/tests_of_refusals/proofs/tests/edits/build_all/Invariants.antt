use Rattle.std.proofs.Common.{◌≡◌, []}
use Rattle.tests_of_refusals.proofs.tests.edits.build_all.Given as goal

-- no task has a rule of its own
abbrev pub invariant-loop-step : goal.invariant-loop-step
invariant-loop-step g l = l.plan.tasks ≡ []
