use Rattle.std.proofs.Common.{◌≡◌, None, rules, sym, ap, subst, ◌∙◌}
use Rattle.numa_space.specs.Standing.{setting_in}
use Rattle.numa_plan.specs.Building.{empty_plan}
use Rattle.numa_plan.specs.Meaning.{PlanData}
use Rattle.numa_plan.specs.Rows.{RuleData}
use Rattle.numa_compile.specs.Rules.{IsRuleOf}
use Rattle.numa_compile.proofs.compiler.compile_counted.Goals as goal

pub copy_space-requires-clause-empty : goal.copy_space-requires-clause-empty
copy_space-requires-clause-empty c =
    let nodes : c.nodes.result ≡ c.args.space.now.machine.nodes = search rules in
    let local : c.in_ok-local.local ≡ c.new-plan.result.local =
    sym (ap (λ (p : PlanData). p.local) c.new-plan.ensures) in
    c.new-plan.ensures ∙ (λ i. empty_plan (nodes i) (local i))

pub copy_space-requires-clause-local : goal.copy_space-requires-clause-local
copy_space-requires-clause-local c =
    subst (λ (rule : RuleData). IsRuleOf (setting_in c.args.space.now) rule None)
    (sym (ap (λ (p : PlanData). p.local) c.new-plan.ensures)) c.in_ok-local.ensures

pub local_rule-requires : goal.local_rule-requires
local_rule-requires c = c.survey.ensures.ready

pub returns-clause-follows : goal.returns-clause-follows
returns-clause-follows c = c.in-Ok.ensures.follows

pub returns-clause-rules : goal.returns-clause-rules
returns-clause-rules c = c.in-Ok.ensures.rules
