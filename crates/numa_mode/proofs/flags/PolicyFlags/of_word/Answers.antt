use Rattle.std.proofs.Common.{ap, ◌∙◌, refl, eqb}
use Rattle.std.specs.Int.{bit_at}
use Rattle.bitflags.proofs.OnLiterals.{bitflags_on_literals}
use Rattle.numa_mode.proofs.Words.{bit_at-kept}
use Rattle.numa_mode.proofs.flags.PolicyFlags.of_word.Goals as goal

pub returns-clause-bits : goal.returns-clause-bits
unfolding bitflags_on_literals
returns-clause-bits c = c.from_bits_truncate.ensures tt

pub returns-clause-is_static : goal.returns-clause-is_static
returns-clause-is_static c = ap (λ flags. eqb (bit_at flags 15) 1) (returns-clause-bits c)
    ∙ ap (λ b. eqb b 1) (bit_at-kept c.args.word 0xc000 15 refl)

pub returns-clause-is_relative : goal.returns-clause-is_relative
returns-clause-is_relative c = ap (λ flags. eqb (bit_at flags 14) 1) (returns-clause-bits c)
    ∙ ap (λ b. eqb b 1) (bit_at-kept c.args.word 0xc000 14 refl)
