use Rattle.std.proofs.Common.{◌≡◌, ℕ, List, length, ap, sym, subst, ◌∙◌, arith}
use Rattle.numa_plan.specs.Rows.{RuleData, Faulting, HasRow, row_number}
use Rattle.numa_plan.specs.Rules.{data_of}
use Rattle.numa_plan.proofs.rule.Rule.row.Goals as goal

pub row_at-requires : goal.row_at-requires
row_at-requires c =
    let is : c.args.self.now ≡ record {
      key = Faulting;
      width = c.in-Faulting.width;
      rows =
          c.in-Faulting.rows.items;
    } = sym c.self.view_is ∙ ap data_of c.in-Faulting.is in
    let has = subst (λ (rule : RuleData). HasRow rule (row_number rule c.args.cpu c.args.index)) is
    c.requires in
    omega (arith, has.there, ap (λ (nodes : List ℕ). length nodes) c.deref.ensures.value)
