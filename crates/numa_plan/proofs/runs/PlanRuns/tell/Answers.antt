use Rattle.numa_plan.proofs.Telling.{found_of, hole_of, some_of}
use Rattle.numa_plan.proofs.runs.PlanRuns.tell.Goals as goal

pub returns-in-Some-clause-found : goal.returns-in-Some-clause-found
returns-in-Some-clause-found c = found_of c.args.self.now c.args.page c.in-Some.told
    c.in-Some.ensures.told

pub returns-in-Some-clause-some : goal.returns-in-Some-clause-some
returns-in-Some-clause-some c = some_of c.args.self.now c.args.page c.in-Some.told
    c.in-Some.ensures.told

pub returns-in-Some-clause-hole : goal.returns-in-Some-clause-hole
returns-in-Some-clause-hole c = hole_of c.args.self.now c.args.page c.in-Some.told
    c.in-Some.ensures.told

pub returns-clause-found : goal.returns-clause-found
returns-clause-found c = found_of c.args.self.now c.args.page c.told_apart.result
    c.told_apart.ensures.told

pub returns-clause-some : goal.returns-clause-some
returns-clause-some c = some_of c.args.self.now c.args.page c.told_apart.result
    c.told_apart.ensures.told

pub returns-clause-hole : goal.returns-clause-hole
returns-clause-hole c = hole_of c.args.self.now c.args.page c.told_apart.result
    c.told_apart.ensures.told
