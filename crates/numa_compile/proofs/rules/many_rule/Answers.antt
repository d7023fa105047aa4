use Rattle.std.proofs.Common.{◌≡◌, ◌<◌, ℕ, Option, unwrap_or, sym, ap, ◌∙◌, subst}
use Rattle.std.proofs.lemmas.Result.{IfOk-weaker}
use Rattle.std.specs.Option.{ForSome}
use Rattle.numa_mask.specs.NodeSet.{both}
use Rattle.numa_mode.proofs.Subsets.{both-within}
use Rattle.numa_space.specs.Lists.{before_others}
use Rattle.numa_space.specs.Standing.{setting_in}
use Rattle.numa_space.proofs.NodeLists.{within-both}
use Rattle.numa_compile.specs.Rules.{GivesRows}
use Rattle.numa_compile.proofs.rules.many_rule.Goals as goal
use Rattle.numa_compile.proofs.rules.many_rule.Goals.{After-and-first}

-- the nodes that come first are the allowed ones of the policy's set
first : (c : After-and-first) → c.and-first.result
    ≡ both c.args.policy.now.effective c.args.space.now.allowed
first c = c.and-first.ensures
    ∙ (λ i. both (c.effective-set.ensures.effective i) (c.allowed.ensures.allowed i))

pub rule_by_home-requires-clause-allowed : goal.rule_by_home-requires-clause-allowed
rule_by_home-requires-clause-allowed c =
    let set = c.args.policy.now.effective in
    subst (λ s. both s c.args.space.now.allowed ≡ s)
    (sym (first (goal.at.rule_by_home-requires-clause-allowed c).After-and-first))
    (within-both (both set c.args.space.now.allowed) c.args.space.now.allowed
    (both-within set c.args.space.now.allowed))

pub rule_by_home-requires-clause-home : goal.rule_by_home-requires-clause-home
rule_by_home-requires-clause-home c =
    subst (λ (h : Option ℕ). ForSome h (λ node. node < c.args.space.now.machine.nodes))
    (sym c.home.ensures.home) c.requires.home

pub returns : goal.returns
returns c =
    IfOk-weaker c.rule_by_home.result _ _
    (λ rule gives.
    subst (λ (h : Option ℕ). GivesRows c.args.space.now.machine.nodes rule
    (λ cpu index. before_others (setting_in c.args.space.now)
    (both c.args.policy.now.effective c.args.space.now.allowed) (unwrap_or h cpu)))
    c.home.ensures.home
    (subst (λ (s : ℕ). GivesRows c.args.space.now.machine.nodes rule
    (λ cpu index. before_others (setting_in c.args.space.now) s (unwrap_or c.home.result cpu)))
    (first (goal.at.returns c).After-and-first) gives)) c.rule_by_home.ensures
