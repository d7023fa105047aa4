use Rattle.std.proofs.Common.{◌≡◌, ap, sym, subst, ◌∙◌}
use Rattle.numa_plan.specs.Rows.{InTurns}
use Rattle.numa_plan.specs.Rules.{data_of, IsRule}
use Rattle.numa_plan.specs.declared.rule.Body.TheVariants.{Turns}
use Rattle.numa_plan.proofs.RuleLemmas.{first-kept}
use Rattle.numa_plan.proofs.rule.Rule.first.Goals as goal

pub row-requires : goal.row-requires
row-requires c = c.requires c.args.index

pub row-requires-in-Fixed : goal.row-requires-in-Fixed
row-requires-in-Fixed c = c.requires c.args.index

pub returns-in-Turns : goal.returns-in-Turns
returns-in-Turns c =
    let is : c.args.self.now ≡ record {
      key = InTurns c.in-Turns.cycle.items;
      width =
          c.in-Turns.width;
      rows = c.in-Turns.rows.items;
    } = sym c.self.view_is
    ∙ ap data_of c.in-Turns.is in
    let whole : IsRule (Turns c.in-Turns.width c.in-Turns.rows c.in-Turns.cycle c.in-Turns.firsts) =
    subst IsRule c.in-Turns.is c.self.invariant in
    c.node_at.ensures
    ∙ sym (first-kept c.args.self.now c.in-Turns.width c.in-Turns.rows.items c.in-Turns.cycle.items
    c.in-Turns.firsts c.args.cpu c.args.index is whole.0 whole.1 (c.requires c.args.index))
