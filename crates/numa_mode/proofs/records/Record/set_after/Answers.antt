use Rattle.std.proofs.Common.{arith, ◌≡◌, ◌<◌, ap, ◌∙◌, sym, subst, true, false}
use Rattle.numa_mask.specs.NodeSet.{weight_of}
use Rattle.numa_mode.specs.Within.{IsWithin, IsAtMostOne}
use Rattle.numa_mode.specs.Policy.{PolicyRecord, effect_after, is_local, is_preferred}
use Rattle.numa_mode.proofs.Local.{effect_after-local}
use Rattle.numa_mode.proofs.Single.{effect_after-at_most_one}
use Rattle.numa_mode.proofs.Subsets.{effect_after-within}
use Rattle.numa_mode.proofs.records.Record.set_after.Goals as goal

pub returns-clause-within : goal.returns-clause-within
returns-clause-within c own follows inside =
    let some : 0 < weight_of c.args.new.now =
    omega (arith, c.weight-size.ensures.some c.requires.some) in
    let after : c.effect_after.result ≡ effect_after c.args.rules c.args.self.now.spec
    c.args.self.now.effective c.args.old.now c.args.new.now =
    c.effect_after.ensures.after ∙ ap
    (λ (r : PolicyRecord). effect_after c.args.rules r.spec r.effective c.args.old.now
    c.args.new.now) c.self.view_is in
    subst (λ set. IsWithin set c.args.new.now) (sym after)
    (effect_after-within c.args.rules c.args.self.now.spec c.args.self.now.effective
    c.args.old.now c.args.new.now some follows inside)

pub returns-clause-preferred : goal.returns-clause-preferred
returns-clause-preferred c here =
    subst IsAtMostOne (sym c.effect_after.ensures.after)
    (effect_after-at_most_one c.args.rules c.self.inside.spec c.self.inside.effective
    c.args.old.now c.args.new.now
    (ap (λ (r : PolicyRecord). is_preferred r.spec) c.self.view_is ∙ here)
    (c.self.invariant.preferred
    (ap (λ (r : PolicyRecord). is_preferred r.spec) c.self.view_is ∙ here)))

pub returns-clause-local : goal.returns-clause-local
returns-clause-local c here =
    c.effect_after.ensures.after ∙ effect_after-local c.args.rules c.self.inside.spec
    c.self.inside.effective c.args.old.now c.args.new.now
    (ap (λ (r : PolicyRecord). is_local r.spec) c.self.view_is ∙ here)
    (c.self.invariant.local (ap (λ (r : PolicyRecord). is_local r.spec) c.self.view_is ∙ here))
