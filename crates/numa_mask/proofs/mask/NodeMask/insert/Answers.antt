use Rattle.std.proofs.Common.{◌/◌, arith, rules, refl, ap, ◌∙◌}
use Rattle.numa_mask.specs.NodeSet.{with_node}
use Rattle.std.proofs.lemmas.Nat.{or_lt}
use Rattle.numa_mask.proofs.Bits.{set_bit, small-set}
use Rattle.numa_mask.proofs.mask.NodeMask.insert.Goals as goal

pub returns : goal.returns
returns c =
    set_bit c.self.inside.words c.number-number.result _ c.self.invariant.small
    (omega (arith, c.self.told)) refl
    (or_lt 64 _ _ (c.self.invariant.small (c.number-number.result / 64)) (omega arith))
    ∙ ap (λ s. with_node s c.number-number.result) c.self.view_is
    ∙ ap (λ n. with_node c.args.self.now n) c.number-number.ensures.number

pub invariant_of-self : goal.invariant_of-self
invariant_of-self c =
    record {
      four = search rules;
      small =
          small-set c.self.inside.words (c.number-number.result / 64) _ c.self.invariant.small
          (omega (arith, c.self.told))
          (or_lt 64 _ _ (c.self.invariant.small (c.number-number.result / 64)) (omega arith));
    }
