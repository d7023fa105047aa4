use Rattle.std.proofs.Common.{◌≡◌, ◌≤◌, ◌+◌, Option, ℕ, subst, arith}
use Rattle.numa_ranges.specs.declared.run.Run.{Run}
use Rattle.numa_ranges.proofs.Apart.{run-bounds}
use Rattle.numa_plan.specs.Found.{IsPartOf}
use Rattle.numa_plan.proofs.Searching.{beside_found, read_far}
use Rattle.numa_plan.proofs.Telling.{between_all, between_down, between_up, hole_between}
use Rattle.numa_plan.proofs.runs.PlanRuns.told_apart.Goals as goal

pub loop-low-init : goal.loop-low-init
loop-low-init c = record {
  place = between_all c.args.self.now c.args.page c.len-high.ensures.apart c.len-high.result
      18446744073709551615 (omega (arith, c.len-high.ensures.count)) (omega arith)
      (λ d l. absurd (omega (arith, l, c.len-high.ensures.count)));
  part = c.requires.part;
}

pub found-requires : goal.found-requires
found-requires c =
    let bounds = run-bounds c.args.self.now c.middle-middle.result c.run_in-run.result
    c.len-high.ensures.apart
    (omega (arith, c.middle-middle.ensures.high, c.loop-low.invariant.place.top))
    (c.run_in-run.ensures c.run_in-run.result) in
    omega (arith, bounds.1)

pub returns-in-Some-found-clause-told : goal.returns-in-Some-found-clause-told
returns-in-Some-found-clause-told c = beside_found c.args.self.now c.args.page
    c.middle-middle.result c.in-Some.far c.in-Some-found.found c.len-high.ensures.apart
    (omega (arith, c.middle-middle.ensures.high, c.loop-low.invariant.place.top))
    (read_far c.args.self.now _ c.run_in-run.result c.in-Some.far c.args.page
    c.run_in-run.ensures c.in-Some.ensures.far)
    (λ d. subst (λ (r : Run (Option ℕ)). IsPartOf r c.in-Some.far c.in-Some-found.found)
    (c.run_in-run.ensures d) c.in-Some-found.ensures)

pub loop-low-preserved-in-Some : goal.loop-low-preserved-in-Some
loop-low-preserved-in-Some c = record {
  place = between_up c.args.self.now c.args.page c.len-high.ensures.apart c.loop-low.low
      c.loop-low.high c.loop-low.ahead c.middle-middle.result c.in-Some.far
      c.middle-middle.ensures.high
      (read_far c.args.self.now _ c.run_in-run.result c.in-Some.far c.args.page
      c.run_in-run.ensures c.in-Some.ensures.far)
      (λ d. subst (λ (r : Run (Option ℕ)). r.pages ≤ c.in-Some.far) (c.run_in-run.ensures d)
      c.in_default.ensures) c.loop-low.invariant.place;
  part = c.hold_apart.ensures.part;
}

pub loop-low-preserved : goal.loop-low-preserved
loop-low-preserved c = record {
  place = between_down c.args.self.now c.args.page c.len-high.ensures.apart c.loop-low.low
      c.loop-low.high c.loop-low.ahead c.middle-middle.result c.far_before-ahead.result
      c.middle-middle.ensures.low c.middle-middle.ensures.high
      (λ d. subst (λ (r : Run (Option ℕ)). c.args.page + c.far_before-ahead.result ≡ r.first)
      (c.run_in-run.ensures d) c.far_before-ahead.ensures)
      (omega (arith, c.in-None.ensures.far, c.far_before-ahead.ensures))
      c.loop-low.invariant.place;
  part = c.hold_apart.ensures.part;
}

pub returns-clause-told : goal.returns-clause-told
returns-clause-told c = hole_between c.args.self.now c.args.page c.len-high.ensures.apart
    c.loop-low.low c.loop-low.high c.loop-low.ahead (omega (arith, c.loop-low-test.false))
    c.loop-low.invariant.place
