use Rattle.std.proofs.Common.{◌≡◌, ◌∙◌}
use Rattle.std.specs.List.{range_with_len}
use Rattle.numa_space.specs.Standing.{setting_in}
use Rattle.numa_plan.specs.Rows.{RuleData, Faulting}
use Rattle.numa_compile.specs.Rules.{row_from, rows_from}
use Rattle.numa_compile.proofs.RowLemmas.{faulting-gives}
use Rattle.numa_compile.proofs.RuleSteps.{gives-is}
use Rattle.numa_compile.proofs.rules.faulting_rule.Goals as goal

pub returns : goal.returns
returns c =
    let nodes = c.args.space.now.machine.nodes in
    let other : RuleData =
    record {
      key = Faulting;
      width = c.width.result;
      rows =
          rows_from (setting_in c.args.space.now) c.args.reach (range_with_len 0 nodes);
    } in
    let is : c.faulting.result ≡ other = c.faulting.ensures
    ∙ (λ i. record { key = Faulting; width = c.width.result; rows = c.in_ok-rows.ensures i }) in
    gives-is nodes c.faulting.result other
    (λ cpu index. row_from (setting_in c.args.space.now) c.args.reach cpu) is
    (faulting-gives c.args.space.now c.args.reach c.width.result c.requires.ready c.requires.some
    c.requires.allowed c.width.ensures)
