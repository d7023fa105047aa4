use Rattle.std.proofs.Common.{refl, sym, ap, subst, ◌∙◌, arith}
use Rattle.numa_plan.specs.Meaning.{PlanData}
use Rattle.numa_compile.specs.Recompiling.{IsAdded}
use Rattle.numa_compile.proofs.recompiler.added.number_or_add.Goals as goal

pub add_rule_of-requires-clause-in_force : goal.add_rule_of-requires-clause-in_force
add_rule_of-requires-clause-in_force c = c.requires.in_force c.in-Some.policy c.in-Some.is

pub returns-clause-added : goal.returns-clause-added
returns-clause-added c =
    subst (λ (p : PlanData). IsAdded c.args.space.now p c.in_ok-number.number
    c.add_rule_of.new.plan) c.number_for_policy.ensures.same c.in_ok-number.ensures.added.0

pub add_rule_of-requires-clause-ready : goal.add_rule_of-requires-clause-ready
add_rule_of-requires-clause-ready c = c.requires.ready

pub add_rule_of-requires-clause-nodes : goal.add_rule_of-requires-clause-nodes
add_rule_of-requires-clause-nodes c =
    ap (λ (p : PlanData). p.nodes) c.number_for_policy.ensures.same ∙ c.requires.nodes

pub add_rule_of-requires-clause-live : goal.add_rule_of-requires-clause-live
add_rule_of-requires-clause-live c = sym c.has_rule.ensures ∙ c.if-not-has_rule.false

pub returns-in_default-clause-few : goal.returns-in_default-clause-few
returns-in_default-clause-few c =
    record { compares = omega arith; runs = refl; rules = omega arith; rules_rise = omega arith }

pub returns-then-not-has_rule-clause-few : goal.returns-then-not-has_rule-clause-few
returns-then-not-has_rule-clause-few c =
    record { compares = omega arith; runs = refl; rules = omega arith; rules_rise = omega arith }

pub returns-in-Some-number_for_policy-clause-few : goal.returns-in-Some-number_for_policy-clause-few
returns-in-Some-number_for_policy-clause-few c =
    record { compares = omega arith; runs = refl; rules = omega arith; rules_rise = omega arith }

pub returns-in-Some-number_for_policy-clause-added :
    goal.returns-in-Some-number_for_policy-clause-added
returns-in-Some-number_for_policy-clause-added c = c.number_for_policy.ensures.same

pub returns-in_err-number-clause-few : goal.returns-in_err-number-clause-few
returns-in_err-number-clause-few c = c.add_rule_of.ensures.few

pub returns-clause-few : goal.returns-clause-few
returns-clause-few c = c.add_rule_of.ensures.few
