use Rattle.std.proofs.Common.{cond, eqb, eq-eqb, arith, refl, sym, ap, ◌∙◌}
use Rattle.std.specs.Int.{bit_at}
use Rattle.std.proofs.lemmas.Bool.{ne_eqb}
use Rattle.numa_mask.specs.NodeSet.{has}
use Rattle.numa_mask.specs.Words.{number_of}
use Rattle.numa_mask.proofs.Bits.{clear_bit}
use Rattle.numa_mask.proofs.mask.NodeMask.remove.Goals as goal

pub returns-clause-gone : goal.returns-clause-gone
returns-clause-gone c =
    ap (λ b. eqb b 1)
    (clear_bit c.self.inside.words c.number-number.result _ c.self.invariant.small
    (omega (arith, c.self.told)) refl c.args.node
    ∙ ap (λ b. cond b 0 (bit_at (number_of c.self.inside.words) c.args.node))
    (eq-eqb c.args.node c.number-number.result (sym c.number-number.ensures.number)))

pub returns-clause-others : goal.returns-clause-others
returns-clause-others c = λ other ne.
    ap (λ b. eqb b 1)
    (clear_bit c.self.inside.words c.number-number.result _ c.self.invariant.small
    (omega (arith, c.self.told)) refl other
    ∙ ap (λ b. cond b 0 (bit_at (number_of c.self.inside.words) other))
    (ne_eqb other c.number-number.result (λ e. ne (e ∙ c.number-number.ensures.number))))
    ∙ ap (λ s. has s other) c.self.view_is
