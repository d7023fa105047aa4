use Rattle.std.proofs.Common.{ℕ, ◌≤◌, ◌-◌, get_or, Option, Some, None, arith}
use Rattle.std.specs.Prelude.{MatchOption}
use Rattle.numa_ranges.specs.declared.run.Run.{Run}
use Rattle.numa_plan.specs.Found.{IsPartOf, IsFound}
use Rattle.numa_plan.specs.declared.runs.Found.{Found}
use Rattle.numa_plan.proofs.Searching.{none_found, part_found, past_found}
use Rattle.numa_plan.proofs.runs.PlanRuns.find_first.Goals as goal

pub returns-then-at-eq0-clause-found : goal.returns-then-at-eq0-clause-found
returns-then-at-eq0-clause-found c = none_found c.args.self.now c.args.page c.split-at.result.0
    c.split-at.result.1 c.split-at.ensures.apart (omega arith) c.split-at.ensures.split

pub returns-clause-found : goal.returns-clause-found
returns-clause-found c = go c.found_on-found.result c.found_on-found.ensures.found
  where
    go : (o : Option Found)
        → ((d : Run (Option ℕ))
        → MatchOption o ((get_or c.args.self.now (c.split-at.result.0 - 1) d).pages
        ≤ c.split-at.result.1)
        (λ found. IsPartOf (get_or c.args.self.now (c.split-at.result.0 - 1) d) c.split-at.result.1
        found)) → IsFound c.args.self.now c.args.page o
    go None h = past_found c.args.self.now c.args.page c.split-at.result.0 c.split-at.result.1
        c.split-at.ensures.apart (omega arith) c.split-at.ensures.split h
    go (Some found) h = part_found c.args.self.now c.args.page c.split-at.result.0
        c.split-at.result.1 found c.split-at.ensures.apart (omega arith) c.split-at.ensures.split h
