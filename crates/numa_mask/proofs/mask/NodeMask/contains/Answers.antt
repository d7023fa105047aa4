use Rattle.std.proofs.Common.{nat_eq, ◌%◌, sym, ap, ◌∙◌}
use Rattle.std.proofs.lemmas.Nat.Bits.{shr_and_one}
use Rattle.numa_mask.specs.NodeSet.{has}
use Rattle.numa_mask.proofs.Bits.{bit_at-number}
use Rattle.numa_mask.proofs.mask.NodeMask.contains.Goals as goal

pub returns : goal.returns
returns c =
    ap (λ b. nat_eq b 1) (shr_and_one _ (c.number-number.result % 64)
    ∙ sym (bit_at-number c.self.inside.words c.self.invariant.small c.number-number.result))
    ∙ ap (λ s. has s c.number-number.result) c.self.view_is
    ∙ ap (has c.args.self.now) c.number-number.ensures.number
