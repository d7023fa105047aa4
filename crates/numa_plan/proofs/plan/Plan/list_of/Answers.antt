use Rattle.std.proofs.Common.{◌≡◌, Option, Some, sym, ap, subst, ◌∙◌, arith}
use Rattle.std.specs.Option.{option_map}
use Rattle.numa_ranges.specs.Runs.{page_at}
use Rattle.numa_plan.specs.Found.{IsFound}
use Rattle.numa_plan.specs.Rows.{RuleData, row_of}
use Rattle.numa_plan.specs.Meaning.{PlanData, rule_for}
use Rattle.numa_plan.specs.declared.runs.Found.{Found}
use Rattle.numa_plan.proofs.Searching.{at_page}
use Rattle.numa_plan.proofs.plan.Plan.list_of.Goals as goal

pub returns-clause-ok : goal.returns-clause-ok
returns-clause-ok c =
    let here : page_at c.args.self.now.runs c.args._page
    ≡ Some (c.in-Some.found.index, c.in-Some.found.rule) =
    at_page c.args.self.now.runs c.args._page c.in-Some.found
    (subst (λ (o : Option Found). IsFound c.args.self.now.runs c.args._page o) c.in-Some.is
    c.requires) in (
      omega (arith, c.if-cpu-self.false, ap (λ (p : PlanData). p.nodes) c.self.view_is),
      ap (λ o. option_map (λ at. row_of (rule_for c.args.self.now c.args.task at.1) c.args.cpu at.0)
          o) here
          ∙ ap (λ (r : RuleData). Some (row_of r c.args.cpu c.in-Some.found.index))
          (sym c.rule_for.ensures.is)
          ∙ ap Some (sym c.row.ensures.is),
    )

pub row-requires : goal.row-requires
row-requires c = c.rule_for.ensures.rows c.args.cpu c.in-Some.found.index
    (omega (arith, c.if-cpu-self.false, ap (λ (p : PlanData). p.nodes) c.self.view_is))
