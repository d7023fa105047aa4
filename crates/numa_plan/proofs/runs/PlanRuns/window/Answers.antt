use Rattle.std.proofs.Common.{length}
use Rattle.numa_plan.proofs.Searching.{twice, window_rises}
use Rattle.numa_plan.proofs.runs.PlanRuns.window.Goals as goal

pub returns-clause-window : goal.returns-clause-window
returns-clause-window c le = record {
  rises = window_rises c.args.self.now c.args.first c.args.end c.count_ended-from.result
      c.count_begun-to.result le c.count_ended-from.ensures.within c.count_ended-from.ensures.ended
      c.count_begun-to.ensures.behind;
  within = c.count_begun-to.ensures.within;
  before = c.count_ended-from.ensures.ended;
  reaching = c.count_ended-from.ensures.reach;
  beginning = c.count_begun-to.ensures.begun;
  behind = c.count_begun-to.ensures.behind;
}

pub returns-clause-quick : goal.returns-clause-quick
returns-clause-quick c = twice c.args.steps.now c.count_ended-from.new.steps
    c.count_begun-to.new.steps (length c.args.self.now) c.count_ended-from.ensures.quick
    c.count_begun-to.ensures.quick
