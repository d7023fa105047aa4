use Rattle.std.proofs.Common.{ℕ, ◌∙◌, ap, sym}
use Rattle.numa_mask.specs.NodeSet.{weight_of}
use Rattle.numa_machine.specs.Sizes.{round_of}
use Rattle.numa_machine.specs.Weights.{total_weight, weight_at}
use Rattle.numa_mode.specs.Policy.{Specification}
use Rattle.numa_mode.specs.declared.modes.Mode.{Mode}
use Rattle.numa_placed.specs.Periods.{period_by}
use Rattle.numa_placed.proofs.period.period_of.Goals as goal

pub returns-in-Interleave : goal.returns-in-Interleave
returns-in-Interleave c =
    c.round_of.ensures
    ∙ ap (λ (turns : ℕ). round_of turns c.args.index c.args.pages)
    (c.from.ensures ∙ c.weight.ensures.weight ∙ ap weight_of c.effective-set.ensures.effective)
    ∙ ap (λ (mode : Mode). period_by (weight_at c.args.weights.now) c.args.index c.args.pages mode
    c.args.policy.now.effective)
    (sym (sym (ap (λ (s : Specification). s.mode) c.spec.ensures.spec) ∙ sym c.mode.ensures
    ∙ c.in-Interleave.is))

pub returns-in-WeightedInterleave : goal.returns-in-WeightedInterleave
returns-in-WeightedInterleave c =
    c.round_of-in-WeightedInterleave.ensures
    ∙ ap (λ (turns : ℕ). round_of turns c.args.index c.args.pages)
    (c.total_weight.ensures ∙ ap (total_weight (weight_at c.args.weights.now))
    c.effective-set.ensures.effective)
    ∙ ap (λ (mode : Mode). period_by (weight_at c.args.weights.now) c.args.index c.args.pages mode
    c.args.policy.now.effective)
    (sym (sym (ap (λ (s : Specification). s.mode) c.spec.ensures.spec) ∙ sym c.mode.ensures
    ∙ c.in-WeightedInterleave.is))
