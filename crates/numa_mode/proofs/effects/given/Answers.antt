use Rattle.std.proofs.Common.{subst, sym}
use Rattle.numa_mode.specs.Within.{IsWithin}
use Rattle.numa_mode.proofs.Subsets.{both-within, onto-within}
use Rattle.numa_mode.proofs.effects.given.Goals as goal

pub returns-in-Plain-clause-within : goal.returns-in-Plain-clause-within
returns-in-Plain-clause-within c = subst (λ set. IsWithin set c.args.allowed.now)
    (sym c.and.ensures) (both-within c.args.mask.now c.args.allowed.now)

pub returns-in-Relative-clause-within : goal.returns-in-Relative-clause-within
returns-in-Relative-clause-within c = subst (λ set. IsWithin set c.args.allowed.now)
    (sym c.onto.ensures) (onto-within c.fold.result c.args.allowed.now)
