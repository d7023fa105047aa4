use Rattle.std.proofs.Common.{◌≡◌, ℕ, List, length, get_or, ap, sym, subst, ◌∙◌, arith}
use Rattle.numa_plan.specs.Rows.{RuleData, first_of, Faulting, Fixed, InTurns}
use Rattle.numa_plan.specs.Rules.{data_of, IsRule}
use Rattle.numa_plan.specs.declared.rule.Body.TheVariants.{Turns}
use Rattle.numa_plan.proofs.RuleLemmas.{count-in_turns, count-same}
use Rattle.numa_plan.proofs.rule.Rule.count.Goals as goal

pub row-requires : goal.row-requires
row-requires c = c.requires.rows c.args.index

pub row-requires-in-Fixed : goal.row-requires-in-Fixed
row-requires-in-Fixed c = c.requires.rows c.args.index

pub returns-in-Turns : goal.returns-in-Turns
returns-in-Turns c node small =
    let is : c.args.self.now ≡ record {
      key = InTurns c.in-Turns.cycle.items;
      width =
          c.in-Turns.width;
      rows = c.in-Turns.rows.items;
    } = sym c.self.view_is
    ∙ ap data_of c.in-Turns.is in
    let whole : IsRule (Turns c.in-Turns.width c.in-Turns.rows c.in-Turns.cycle c.in-Turns.firsts) =
    subst IsRule c.in-Turns.is c.self.invariant in
    omega (
      arith,
      c.count_turns.ensures node small,
      count-in_turns c.args.self.now c.in-Turns.width
          c.in-Turns.rows.items c.in-Turns.cycle.items c.in-Turns.firsts c.args.cpu node
          c.args.index
          c.args.pages is whole.0 whole.1 c.requires.rows,
    )

pub returns-in-Faulting : goal.returns-in-Faulting
returns-in-Faulting c node small =
    let is : c.args.self.now ≡ record {
      key = Faulting;
      width = c.in-Faulting.width;
      rows =
          c.in-Faulting.rows.items;
    } = sym c.self.view_is ∙ ap data_of c.in-Faulting.is in
    let hit : first_of c.args.self.now c.args.cpu c.args.index ≡ c.from.result =
    ap (λ (nodes : List ℕ). get_or nodes 0 0) (sym c.row.ensures.is) ∙ sym c.from.ensures in
    count-same c.args.self.now c.args.cpu c.from.result c.args.index c.args.pages c.args.counts.now
    (λ k. ap (λ (r : RuleData). first_of r c.args.cpu k) is
    ∙ sym (ap (λ (r : RuleData). first_of r c.args.cpu c.args.index) is) ∙ hit)
    (omega arith) node

pub returns-in-Fixed : goal.returns-in-Fixed
returns-in-Fixed c node small =
    let is : c.args.self.now ≡ record {
      key = Fixed;
      width = length c.in-Fixed.rows.items;
      rows =
          c.in-Fixed.rows.items;
    } = sym c.self.view_is ∙ ap data_of c.in-Fixed.is in
    let hit : first_of c.args.self.now c.args.cpu c.args.index ≡ c.from-in-Fixed.result =
    ap (λ (nodes : List ℕ). get_or nodes 0 0) (sym c.row-in-Fixed.ensures.is)
    ∙ sym c.from-in-Fixed.ensures in
    count-same c.args.self.now c.args.cpu c.from-in-Fixed.result c.args.index c.args.pages
    c.args.counts.now
    (λ k. ap (λ (r : RuleData). first_of r c.args.cpu k) is
    ∙ sym (ap (λ (r : RuleData). first_of r c.args.cpu c.args.index) is) ∙ hit)
    (omega arith) node
