use Rattle.std.proofs.Common.{◌≤◌, ◌-◌, Option, ℕ, subst, arith}
use Rattle.numa_ranges.specs.declared.run.Run.{Run}
use Rattle.numa_ranges.proofs.Apart.{run-bounds}
use Rattle.numa_plan.specs.Found.{IsPartOf}
use Rattle.numa_plan.proofs.Searching.{beside_found, read_far}
use Rattle.numa_plan.proofs.Telling.{hole_behind, hole_first}
use Rattle.numa_plan.proofs.runs.PlanRuns.told_before.Goals as goal

pub returns-then-place-eq0-clause-told : goal.returns-then-place-eq0-clause-told
returns-then-place-eq0-clause-told c = hole_first c.args.self.now c.args.page c.len.ensures.apart
    c.args.place c.args.ahead c.if-place-eq0.true c.requires.place c.requires.some c.requires.ahead

pub found-requires : goal.found-requires
found-requires c =
    let bounds = run-bounds c.args.self.now (c.args.place - 1) c.run_in-run.result
    c.len.ensures.apart (omega (arith, c.requires.place))
    (c.run_in-run.ensures c.run_in-run.result) in
    omega (arith, bounds.1)

pub returns-in-Some-clause-told : goal.returns-in-Some-clause-told
returns-in-Some-clause-told c = beside_found c.args.self.now c.args.page (c.args.place - 1)
    c.in_ok-far.far c.in-Some.found c.len.ensures.apart (omega (arith, c.requires.place))
    (read_far c.args.self.now _ c.run_in-run.result c.in_ok-far.far c.args.page
    c.run_in-run.ensures c.in_ok-far.ensures.far)
    (λ d. subst (λ (r : Run (Option ℕ)). IsPartOf r c.in_ok-far.far c.in-Some.found)
    (c.run_in-run.ensures d) c.in-Some.ensures)

pub returns-in-None-clause-told : goal.returns-in-None-clause-told
returns-in-None-clause-told c = hole_behind c.args.self.now c.args.page c.len.ensures.apart
    c.args.place c.args.ahead c.in_ok-far.far (omega (arith, c.if-place-eq0.false))
    c.requires.place c.requires.some c.requires.ahead
    (read_far c.args.self.now _ c.run_in-run.result c.in_ok-far.far c.args.page
    c.run_in-run.ensures c.in_ok-far.ensures.far)
    (λ d. subst (λ (r : Run (Option ℕ)). r.pages ≤ c.in_ok-far.far) (c.run_in-run.ensures d)
    c.in-None.ensures)
