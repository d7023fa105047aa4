use Rattle.std.proofs.Common.{bit_and, ap, ◌∙◌}
use Rattle.numa_mask.specs.Words.{number_of}
use Rattle.numa_mask.proofs.Bits.{and_words}
use Rattle.numa_mask.proofs.mask.NodeMask.and.Goals as goal

pub returns : goal.returns
returns c =
    and_words c.self.inside.words c.other.inside.words c.self.invariant c.other.invariant
    ∙ ap (λ s. bit_and s (number_of c.other.inside.words)) c.self.view_is
    ∙ ap (bit_and c.args.self.now) c.other.view_is
