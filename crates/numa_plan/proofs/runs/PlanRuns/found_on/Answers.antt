use Rattle.std.proofs.Common.{arith}
use Rattle.numa_ranges.proofs.Apart.{run-bounds}
use Rattle.numa_plan.proofs.runs.PlanRuns.found_on.Goals as goal

pub found-requires : goal.found-requires
found-requires c =
    let bounds = run-bounds c.args.self.now c.args.place c.run_in.result c.requires.apart
    c.requires.place (c.run_in.ensures c.run_in.result) in
    omega (arith, bounds.1)
