use Rattle.std.proofs.Common.{◌-◌, length, arith, rules}
use Rattle.numa_plan.proofs.Searching.{spare, narrow_up, narrow_down, is_split, read_far}
use Rattle.numa_plan.proofs.Searching.{read_above}
use Rattle.numa_plan.proofs.runs.PlanRuns.split.Goals as goal

pub loop-low-preserved-in-Some : goal.loop-low-preserved-in-Some
loop-low-preserved-in-Some c = record {
  place = narrow_up c.args.self.now c.args.page c.loop-low.low c.loop-low.high c.loop-low.far
      c.middle_of-middle.result c.in-Some.distance c.sizes-runs.ensures.apart
      c.middle_of-middle.ensures.low c.middle_of-middle.ensures.high
      (read_far c.args.self.now _ c.run_in-run.result c.in-Some.distance c.args.page
      c.run_in-run.ensures c.in-Some.ensures.far) c.loop-low.invariant.place;
  cost =
      rw c.in-Some.ensures.counted (spare c.args.steps.now.comparisons c.loop-low.steps.comparisons
      (c.loop-low.high - c.loop-low.low) _ (length c.args.self.now) (omega arith)
      c.middle_of-middle.ensures.right c.loop-low.invariant.cost);
  no_run = search rules;
  no_rule = search rules;
  part = c.part_with-part.ensures.part;
}

pub loop-low-preserved : goal.loop-low-preserved
loop-low-preserved c = record {
  place = narrow_down c.args.self.now c.args.page c.loop-low.low c.loop-low.high c.loop-low.far
      c.middle_of-middle.result c.sizes-runs.ensures.apart c.middle_of-middle.ensures.low
      c.middle_of-middle.ensures.high (read_above c.args.self.now _ c.run_in-run.result c.args.page
      c.run_in-run.ensures c.in-None.ensures.far) c.loop-low.invariant.place;
  cost =
      rw c.in-None.ensures.counted (spare c.args.steps.now.comparisons c.loop-low.steps.comparisons
      (c.loop-low.high - c.loop-low.low) _ (length c.args.self.now) (omega arith)
      c.middle_of-middle.ensures.left c.loop-low.invariant.cost);
  no_run = search rules;
  no_rule = search rules;
  part = c.part_with-part.ensures.part;
}

pub returns-clause-split : goal.returns-clause-split
returns-clause-split c = is_split c.args.self.now c.args.page c.loop-low.low c.loop-low.high
    c.loop-low.far (omega arith) c.loop-low.invariant.place
