use Rattle.std.proofs.Common.{eqb, ap, ◌∙◌}
use Rattle.numa_mask.specs.Words.{number_of}
use Rattle.numa_mask.proofs.Bits.{same_words}
use Rattle.numa_mask.proofs.mask.NodeMaskPartialEq.eq.Goals as goal

pub returns : goal.returns
returns c =
    same_words c.self.inside.words c.other.inside.words c.eq.result c.self.invariant
    c.other.invariant c.eq.ensures
    ∙ ap (λ s. eqb s (number_of c.other.inside.words)) c.self.view_is
    ∙ ap (eqb c.args.self.now) c.other.view_is
