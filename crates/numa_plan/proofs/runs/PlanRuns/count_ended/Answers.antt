use Rattle.std.proofs.Common.{◌-◌, arith}
use Rattle.numa_plan.proofs.Searching.{reaching, ending}
use Rattle.numa_plan.proofs.runs.PlanRuns.count_ended.Goals as goal

pub returns-in-Some-clause-ended : goal.returns-in-Some-clause-ended
returns-in-Some-clause-ended c k d low high =
    let whole = reaching c.args.self.now (c.args.page - 1) c.split-at.result.0 c.split-at.result.1
    c.split-at.ensures.apart (omega arith) c.split-at.ensures.split c.in-Some.field-0
    c.in-Some.ensures in
    omega (arith, whole.0 k d low high)

pub returns-in-Some-clause-reach : goal.returns-in-Some-clause-reach
returns-in-Some-clause-reach c k d low high =
    let whole = reaching c.args.self.now (c.args.page - 1) c.split-at.result.0 c.split-at.result.1
    c.split-at.ensures.apart (omega arith) c.split-at.ensures.split c.in-Some.field-0
    c.in-Some.ensures in
    omega (arith, whole.1 k d low high)

pub returns-in-None-clause-ended : goal.returns-in-None-clause-ended
returns-in-None-clause-ended c k d low high =
    omega (
      arith,
      ending c.args.self.now (c.args.page - 1) c.split-at.result.0 c.split-at.result.1
          c.split-at.ensures.apart (omega arith) c.split-at.ensures.split c.in-None.ensures k d low
          high,
    )
