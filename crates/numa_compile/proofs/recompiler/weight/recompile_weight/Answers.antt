use Rattle.std.proofs.Common.{◌≡◌, ℕ, List, Option, Some, sym, ap, subst, ◌∙◌, arith, length}
use Rattle.std.specs.Option.{ForSome}
use Rattle.numa_plan.specs.Meaning.{PlanData}
use Rattle.numa_plan.specs.Rows.{Kept}
use Rattle.numa_plan.specs.Slots.{policy_in}
use Rattle.numa_compile.proofs.WeightFollows.{weight-follows, weight-serving, weight-standing}
use Rattle.numa_compile.proofs.WeightSteps.{IsRewriting, none-left, last-there, last-rows}
use Rattle.numa_compile.proofs.WeightSteps.{rewriting-next, rewriting-start}
use Rattle.numa_compile.proofs.recompiler.weight.recompile_weight.Goals as goal

pub all_renewed-requires-clause-standing : goal.all_renewed-requires-clause-standing
all_renewed-requires-clause-standing c = weight-standing c.args.space.now c.requires.behind.0
    c.requires.behind.1.0 c.args.plan.now c.requires.behind.1.1

pub loop-rule-init : goal.loop-rule-init
loop-rule-init c = rewriting-start c.args.space.now c.args.plan.now c.args.steps.now
    c.in_ok-rules.rules.items c.in_ok-rules.ensures.all c.in_ok-rules.ensures.few
    c.in_ok-rules.ensures.renewed

pub write_renewed-requires-clause-there : goal.write_renewed-requires-clause-there
write_renewed-requires-clause-there c =
    let place : c.len-number.result ≡ length c.pop.new.self.items =
    omega (arith, c.len-number.ensures) in
    let at =
    subst (λ (rules : List (Option Kept)). IsRewriting c.args.space.now c.args.plan.now
    c.args.steps.now rules c.loop-rule.plan c.loop-rule.steps) c.in-Some.ensures.items
    c.loop-rule.invariant in
    subst (λ (n : ℕ).
    ForSome c.in-Some.rule (λ kept. policy_in c.loop-rule.plan.slots n ≡ Some kept.policy))
    (sym place)
    (last-there c.args.space.now c.args.plan.now c.args.steps.now c.pop.new.self.items
    c.in-Some.rule c.loop-rule.plan c.loop-rule.steps at)

pub write_renewed-requires-clause-rows : goal.write_renewed-requires-clause-rows
write_renewed-requires-clause-rows c =
    let at =
    subst (λ (rules : List (Option Kept)). IsRewriting c.args.space.now c.args.plan.now
    c.args.steps.now rules c.loop-rule.plan c.loop-rule.steps) c.in-Some.ensures.items
    c.loop-rule.invariant in
    last-rows c.args.space.now c.args.plan.now c.args.steps.now c.pop.new.self.items c.in-Some.rule
    c.loop-rule.plan c.loop-rule.steps at
    (ap (λ (p : PlanData). p.nodes) at.rest ∙ c.requires.behind.1.1.follows.nodes
    ∙ sym (ap (λ machine. machine.nodes) c.requires.behind.1.1.step.next.machine))

pub loop-rule-preserved : goal.loop-rule-preserved
loop-rule-preserved c =
    let place : c.len-number.result ≡ length c.pop.new.self.items =
    omega (arith, c.len-number.ensures) in
    let at =
    subst (λ (rules : List (Option Kept)). IsRewriting c.args.space.now c.args.plan.now
    c.args.steps.now rules c.loop-rule.plan c.loop-rule.steps) c.in-Some.ensures.items
    c.loop-rule.invariant in
    rewriting-next c.args.space.now c.args.plan.now c.args.steps.now c.pop.new.self.items
    c.in-Some.rule c.loop-rule.plan c.loop-rule.steps at c.write_renewed.new.plan
    c.write_renewed.new.steps
    (weight-serving c.args.space.now c.requires.behind.0 c.requires.behind.1.0 c.args.plan.now
    c.requires.behind.1.1)
    c.len-number.result place c.write_renewed.ensures.here c.write_renewed.ensures.others
    c.write_renewed.ensures.rest c.write_renewed.ensures.few

pub returns-clause-follows : goal.returns-clause-follows
returns-clause-follows c =
    let none : length c.loop-rule.rules.items ≡ 0 =
    omega (arith, none-left c.pop.result _ _ c.in_default.not-Some c.pop.ensures.cases) in
    weight-follows c.args.space.now c.requires.behind.0 c.requires.behind.1.0 c.args.plan.now
    c.requires.behind.1.1
    c.survey.ensures.rising c.survey.ensures.maximal c.args.steps.now c.loop-rule.steps
    c.loop-rule.rules.items c.loop-rule.plan none c.loop-rule.invariant
    c.set_version.new.self (c.set_version.ensures
    ∙ ap (λ version. record c.loop-rule.plan { version = version }) c.version.ensures.version)

pub all_renewed-requires-clause-ready : goal.all_renewed-requires-clause-ready
all_renewed-requires-clause-ready c = c.survey.ensures.ready
