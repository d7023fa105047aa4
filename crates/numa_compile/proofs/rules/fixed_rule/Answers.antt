use Rattle.std.proofs.Common.{◌≡◌, ◌∙◌, List, ℕ, length, ap, rules}
use Rattle.numa_space.specs.Standing.{setting_in}
use Rattle.numa_plan.specs.Rows.{RuleData, Fixed}
use Rattle.numa_compile.specs.Rules.{row_from}
use Rattle.numa_compile.proofs.RowLemmas.{fixed-gives}
use Rattle.numa_compile.proofs.RuleSteps.{gives-is}
use Rattle.numa_compile.proofs.rules.fixed_rule.Goals as goal

pub returns : goal.returns
returns c =
    let row : List ℕ = row_from (setting_in c.args.space.now) c.args.reach c.args.from in
    let other : RuleData = record { key = Fixed; width = length row; rows = row } in
    let items : c.push_row.new.rows.items ≡ row = search rules in
    let is : c.fixed.result ≡ other = c.fixed.ensures
    ∙ ap (λ (xs : List ℕ). record { key = Fixed; width = length xs; rows = xs }) items in
    gives-is c.args.space.now.machine.nodes c.fixed.result other (λ cpu index. row) is
    (fixed-gives c.args.space.now c.args.reach c.args.from c.requires.ready c.requires.some
    c.requires.allowed)
