use Rattle.std.proofs.Common.{◌≡◌}
use Rattle.numa_plan.specs.Counted.{more_runs}
use Rattle.numa_plan.proofs.steps.Steps.runs_written.Given as goal

abbrev pub invariant-loop : goal.invariant-loop
invariant-loop l = l.self ≡ more_runs l.counter l.fn.self
