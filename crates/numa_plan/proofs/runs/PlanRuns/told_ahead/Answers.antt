use Rattle.std.proofs.Common.{◌≡◌, ◌+◌, Option, ℕ, subst, arith}
use Rattle.numa_ranges.specs.declared.run.Run.{Run}
use Rattle.numa_ranges.proofs.Apart.{run-bounds}
use Rattle.numa_plan.specs.Found.{IsPartOf}
use Rattle.numa_plan.proofs.Searching.{beside_found, read_far}
use Rattle.numa_plan.proofs.runs.PlanRuns.told_ahead.Goals as goal

pub found-requires : goal.found-requires
found-requires c =
    let bounds = run-bounds c.args.self.now c.args.walk.now.place c.run_in-run.result
    c.len.ensures.apart (omega (arith, c.if-place-len.false, c.len.ensures.count))
    (c.run_in-run.ensures c.run_in-run.result) in
    omega (arith, bounds.1)

pub told_before-requires-clause-ahead : goal.told_before-requires-clause-ahead
told_before-requires-clause-ahead c d =
    subst (λ (r : Run (Option ℕ)). c.args.page + c.far_before-ahead.result ≡ r.first)
    (c.run_in-run.ensures d) c.far_before-ahead.ensures

pub returns-clause-told : goal.returns-clause-told
returns-clause-told c = beside_found c.args.self.now c.args.page c.args.walk.now.place
    c.in-Some.far c.in_ok-found.found c.len.ensures.apart
    (omega (arith, c.if-place-len.false, c.len.ensures.count))
    (read_far c.args.self.now _ c.run_in-run.result c.in-Some.far c.args.page
    c.run_in-run.ensures c.in-Some.ensures.far)
    (λ d. subst (λ (r : Run (Option ℕ)). IsPartOf r c.in-Some.far c.in_ok-found.found)
    (c.run_in-run.ensures d) c.in_ok-found.ensures)
