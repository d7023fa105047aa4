use Rattle.std.proofs.Common.{length}
use Rattle.numa_plan.proofs.Searching.{looks-more, looked, sought}
use Rattle.numa_plan.proofs.runs.PlanRuns.find_by_interpolation.Goals as goal

pub returns-in-Some-clause-quick : goal.returns-in-Some-clause-quick
returns-in-Some-clause-quick c = looked c.args.steps.now c.found_ahead.new.steps
    (length c.args.self.now)
    (looks-more c.args.steps.now c.interpolated-start.new.steps c.found_ahead.new.steps
    c.interpolated-start.ensures.few c.found_ahead.ensures.few)

pub returns-clause-quick : goal.returns-clause-quick
returns-clause-quick c = sought c.args.steps.now c.found_ahead.new.steps c.find.new.steps
    (length c.args.self.now)
    (looks-more c.args.steps.now c.interpolated-start.new.steps c.found_ahead.new.steps
    c.interpolated-start.ensures.few c.found_ahead.ensures.few) c.find.ensures.quick
