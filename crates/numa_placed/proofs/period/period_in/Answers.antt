use Rattle.std.proofs.Common.{ℕ, Option, Some, ap, refl, subst, sym, ◌∙◌}
use Rattle.numa_machine.specs.Weights.{NodeWeights, weight_at}
use Rattle.numa_mode.specs.Policy.{PolicyRecord}
use Rattle.numa_space.specs.Lists.{setting_of}
use Rattle.numa_space.specs.Standing.{setting_in}
use Rattle.numa_placed.specs.Periods.{IsPeriod, period_for}
use Rattle.numa_placed.proofs.Repeating.{is-period}
use Rattle.numa_placed.proofs.period.period_in.Goals as goal

-- (the names of goals and of the policy in the arm are guessed)
pub returns-in-Some-clause-now : goal.returns-in-Some-clause-now
returns-in-Some-clause-now c =
    let count = c.period_of.ensures
    ∙ ap (λ (w : NodeWeights). period_for (weight_at w) (Some c.in-Some.policy) c.args.index
    c.args.pages) c.weights.ensures.weights in
    subst (λ (p : Option PolicyRecord). IsPeriod (setting_in c.args.space.now) p c.args.index
    c.args.pages c.period_of.result) (sym c.in-Some.is)
    (is-period (setting_in c.args.space.now) c.args.index c.args.pages
    (weight_at c.args.space.now.weights) c.in-Some.policy c.period_of.result (λ node. refl) count)

pub returns-in-Some-clause-meaning : goal.returns-in-Some-clause-meaning
returns-in-Some-clause-meaning c history stands =
    let count = c.period_of.ensures
    ∙ ap (λ (w : NodeWeights). period_for (weight_at w) (Some c.in-Some.policy) c.args.index
    c.args.pages) c.weights.ensures.weights in
    subst (λ (p : Option PolicyRecord). IsPeriod (setting_of c.args.space.now.machine history) p
    c.args.index c.args.pages c.period_of.result) (sym c.in-Some.is)
    (is-period (setting_of c.args.space.now.machine history) c.args.index c.args.pages
    (weight_at c.args.space.now.weights) c.in-Some.policy c.period_of.result stands.weights count)
