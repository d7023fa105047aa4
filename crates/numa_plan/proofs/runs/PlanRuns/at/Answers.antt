use Rattle.std.proofs.Common.{arith}
use Rattle.numa_plan.proofs.runs.PlanRuns.at.Goals as goal

pub run_near-requires : goal.run_near-requires
run_near-requires c = omega (arith, c.if-place-runs.true, c.sizes-runs.ensures.count)
