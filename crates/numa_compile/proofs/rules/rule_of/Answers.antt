use Rattle.std.proofs.Common.{ℕ, ◌<◌, Option, unwrap_or, refl, sym, subst}
use Rattle.std.proofs.lemmas.Result.{IfOk-weaker}
use Rattle.std.specs.Option.{ForSome}
use Rattle.numa_machine.specs.Machine.{fallback_order}
use Rattle.numa_mode.specs.declared.modes.Mode.TheVariants.{Default, Local, Preferred, Bind}
use Rattle.numa_mode.specs.declared.modes.Mode.TheVariants.{PreferredMany, Interleave}
use Rattle.numa_mode.specs.declared.modes.Mode.TheVariants.{WeightedInterleave}
use Rattle.numa_space.specs.Lists.{within}
use Rattle.numa_space.specs.Standing.{setting_in}
use Rattle.numa_compile.specs.Rules.{GivesRows}
use Rattle.numa_compile.proofs.AllowedLemmas.{all-allowed, filled-by, policy-memory}
use Rattle.numa_compile.proofs.RuleSteps.{gives-policy}
use Rattle.numa_compile.proofs.rules.rule_of.Goals as goal

pub rule_by_home-requires-clause-some : goal.rule_by_home-requires-clause-some
rule_by_home-requires-clause-some c = c.allowed.ensures.some

pub rule_by_home-requires-clause-allowed : goal.rule_by_home-requires-clause-allowed
rule_by_home-requires-clause-allowed c = all-allowed c.allowed.result c.args.space.now.allowed
    c.allowed.ensures.allowed

pub rule_by_home-requires-clause-home : goal.rule_by_home-requires-clause-home
rule_by_home-requires-clause-home c =
    subst (λ (h : Option ℕ). ForSome h (λ node. node < c.args.space.now.machine.nodes))
    (sym c.home.ensures.home) c.requires.in_force.home

pub rule_by_home-requires-in-Local-clause-some : goal.rule_by_home-requires-in-Local-clause-some
rule_by_home-requires-in-Local-clause-some c = c.allowed.ensures.some

pub rule_by_home-requires-in-Local-clause-allowed :
    goal.rule_by_home-requires-in-Local-clause-allowed
rule_by_home-requires-in-Local-clause-allowed c =
    all-allowed c.allowed.result c.args.space.now.allowed c.allowed.ensures.allowed

pub rule_by_home-requires-in-Local-clause-home : goal.rule_by_home-requires-in-Local-clause-home
rule_by_home-requires-in-Local-clause-home c =
    subst (λ (h : Option ℕ). ForSome h (λ node. node < c.args.space.now.machine.nodes))
    (sym c.home-in-Local.ensures.home) c.requires.in_force.home

pub rule_by_home-requires-in-Bind-clause-some : goal.rule_by_home-requires-in-Bind-clause-some
rule_by_home-requires-in-Bind-clause-some c = c.usable-keeps.ensures.some

pub rule_by_home-requires-in-Bind-clause-allowed : goal.rule_by_home-requires-in-Bind-clause-allowed
rule_by_home-requires-in-Bind-clause-allowed c = c.usable-keeps.ensures.inside

pub rule_by_home-requires-in-Bind-clause-home : goal.rule_by_home-requires-in-Bind-clause-home
rule_by_home-requires-in-Bind-clause-home c =
    subst (λ (h : Option ℕ). ForSome h (λ node. node < c.args.space.now.machine.nodes))
    (sym c.home-in-Bind.ensures.home) c.requires.in_force.home

pub many_rule-requires-clause-home : goal.many_rule-requires-clause-home
many_rule-requires-clause-home c = c.requires.in_force.home

pub preferred_rule-requires-clause-some : goal.preferred_rule-requires-clause-some
preferred_rule-requires-clause-some c = filled-by c.args.policy.now c.spec.result c.mode.result
    Preferred c.effective-set.result c.requires.live c.spec.ensures.spec c.mode.ensures
    c.in-Preferred.is refl c.effective-set.ensures.effective

pub preferred_rule-requires-clause-memory : goal.preferred_rule-requires-clause-memory
preferred_rule-requires-clause-memory c = policy-memory c.args.policy.now c.effective-set.result
    c.args.space.now.machine.memory c.requires.in_force.memory c.effective-set.ensures.effective

pub interleave_rule-requires-clause-some : goal.interleave_rule-requires-clause-some
interleave_rule-requires-clause-some c = filled-by c.args.policy.now c.spec.result c.mode.result
    Interleave c.effective-set.result c.requires.live c.spec.ensures.spec c.mode.ensures
    c.in-Interleave.is refl c.effective-set.ensures.effective

pub interleave_rule-requires-clause-memory : goal.interleave_rule-requires-clause-memory
interleave_rule-requires-clause-memory c = policy-memory c.args.policy.now c.effective-set.result
    c.args.space.now.machine.memory c.requires.in_force.memory c.effective-set.ensures.effective

pub weighted_rule-requires-clause-some : goal.weighted_rule-requires-clause-some
weighted_rule-requires-clause-some c = filled-by c.args.policy.now c.spec.result c.mode.result
    WeightedInterleave c.effective-set.result c.requires.live c.spec.ensures.spec c.mode.ensures
    c.in-WeightedInterleave.is refl c.effective-set.ensures.effective

pub weighted_rule-requires-clause-memory : goal.weighted_rule-requires-clause-memory
weighted_rule-requires-clause-memory c = policy-memory c.args.policy.now c.effective-set.result
    c.args.space.now.machine.memory c.requires.in_force.memory c.effective-set.ensures.effective

pub returns-in-Default : goal.returns-in-Default
returns-in-Default c =
    IfOk-weaker c.rule_by_home.result _ _
    (λ rule gives.
    gives-policy (setting_in c.args.space.now) rule c.args.policy.now c.spec.result c.mode.result
    Default c.effective-set.result c.home.result c.spec.ensures.spec c.mode.ensures
    c.in-Default.is c.effective-set.ensures.effective c.home.ensures.home
    (subst (λ (n : ℕ). GivesRows c.args.space.now.machine.nodes rule
    (λ cpu index.
    within n (fallback_order c.args.space.now.machine (unwrap_or c.home.result cpu))))
    c.allowed.ensures.allowed gives)) c.rule_by_home.ensures

pub returns-in-Local : goal.returns-in-Local
returns-in-Local c =
    IfOk-weaker c.rule_by_home-in-Local.result _ _
    (λ rule gives.
    gives-policy (setting_in c.args.space.now) rule c.args.policy.now c.spec.result c.mode.result
    Local c.effective-set.result c.home-in-Local.result c.spec.ensures.spec c.mode.ensures
    c.in-Local.is c.effective-set.ensures.effective c.home-in-Local.ensures.home
    (subst (λ (n : ℕ). GivesRows c.args.space.now.machine.nodes rule
    (λ cpu index.
    within n (fallback_order c.args.space.now.machine (unwrap_or c.home-in-Local.result cpu))))
    c.allowed.ensures.allowed gives)) c.rule_by_home-in-Local.ensures

pub returns-in-Bind : goal.returns-in-Bind
returns-in-Bind c =
    IfOk-weaker c.rule_by_home-in-Bind.result _ _
    (λ rule gives.
    gives-policy (setting_in c.args.space.now) rule c.args.policy.now c.spec.result c.mode.result
    Bind c.effective-set.result c.home-in-Bind.result c.spec.ensures.spec c.mode.ensures
    c.in-Bind.is c.effective-set.ensures.effective c.home-in-Bind.ensures.home
    (subst (λ (n : ℕ). GivesRows c.args.space.now.machine.nodes rule
    (λ cpu index.
    within n (fallback_order c.args.space.now.machine (unwrap_or c.home-in-Bind.result cpu))))
    c.usable-keeps.ensures.usable gives)) c.rule_by_home-in-Bind.ensures

pub returns-in-PreferredMany : goal.returns-in-PreferredMany
returns-in-PreferredMany c =
    IfOk-weaker c.many_rule.result _ _
    (λ rule gives.
    gives-policy (setting_in c.args.space.now) rule c.args.policy.now c.spec.result c.mode.result
    PreferredMany c.args.policy.now.effective c.args.policy.now.home c.spec.ensures.spec
    c.mode.ensures c.in-PreferredMany.is refl refl
    gives) c.many_rule.ensures

pub returns-in-Preferred : goal.returns-in-Preferred
returns-in-Preferred c =
    IfOk-weaker c.preferred_rule.result _ _
    (λ rule gives.
    gives-policy (setting_in c.args.space.now) rule c.args.policy.now c.spec.result c.mode.result
    Preferred c.effective-set.result c.args.policy.now.home c.spec.ensures.spec c.mode.ensures
    c.in-Preferred.is c.effective-set.ensures.effective refl
    gives) c.preferred_rule.ensures

pub returns-in-Interleave : goal.returns-in-Interleave
returns-in-Interleave c =
    IfOk-weaker c.interleave_rule.result _ _
    (λ rule gives.
    gives-policy (setting_in c.args.space.now) rule c.args.policy.now c.spec.result c.mode.result
    Interleave c.effective-set.result c.args.policy.now.home c.spec.ensures.spec c.mode.ensures
    c.in-Interleave.is c.effective-set.ensures.effective refl
    gives) c.interleave_rule.ensures

pub returns-in-WeightedInterleave : goal.returns-in-WeightedInterleave
returns-in-WeightedInterleave c =
    IfOk-weaker c.weighted_rule.result _ _
    (λ rule gives.
    gives-policy (setting_in c.args.space.now) rule c.args.policy.now c.spec.result c.mode.result
    WeightedInterleave c.effective-set.result c.args.policy.now.home c.spec.ensures.spec
    c.mode.ensures c.in-WeightedInterleave.is c.effective-set.ensures.effective refl
    gives) c.weighted_rule.ensures
