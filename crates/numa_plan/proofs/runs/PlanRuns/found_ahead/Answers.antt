use Rattle.std.proofs.Common.{◌≡◌, ℕ, ◌+◌, Option, subst, arith}
use Rattle.numa_ranges.specs.declared.run.Run.{Run}
use Rattle.numa_ranges.proofs.Apart.{run-bounds}
use Rattle.numa_plan.specs.Found.{IsPartOf}
use Rattle.numa_plan.proofs.Searching.{beside_found}
use Rattle.numa_plan.proofs.runs.PlanRuns.found_ahead.Goals as goal

pub found-requires : goal.found-requires
found-requires c =
    let bounds = run-bounds c.args.self.now c.args.walk.now.place c.run_in-run.result
    c.len.ensures.apart (omega (arith, c.len.ensures.count))
    (c.run_in-run.ensures c.run_in-run.result) in
    omega (arith, bounds.1)

pub returns-clause-found : goal.returns-clause-found
returns-clause-found c =
    let place = c.args.walk.now.place in
    let is = c.run_in-run.ensures in
    beside_found c.args.self.now c.args.page place c.in_ok-far.far c.in_ok-found.found
    c.len.ensures.apart (omega (arith, c.len.ensures.count))
    (λ d. subst (λ (r : Run (Option ℕ)). r.first + c.in_ok-far.far ≡ c.args.page) (is d)
    c.in_ok-far.ensures.far)
    (λ d. subst (λ (r : Run (Option ℕ)). IsPartOf r c.in_ok-far.far c.in_ok-found.found) (is d)
    c.in_ok-found.ensures)
