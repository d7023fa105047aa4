use Rattle.std.proofs.Common.{◌∙◌, arith}
use Rattle.numa_placed.proofs.Renamed.{tidied-lies}
use Rattle.numa_placed.proofs.tidy.tidy_some.Goals as goal

pub returns-in-Lies-clause-tidied : goal.returns-in-Lies-clause-tidied
returns-in-Lies-clause-tidied c =
    tidied-lies c.args.places.now c.args.next.now c.args.last.now c.args.page _ c.in-Lies.spot
    c.requires.kept.whole (omega (arith, c.same_until-slot.ensures.rises))
    c.same_until-slot.ensures.within
    (λ p low high. c.same_until-slot.ensures.slots p low high ∙ c.in-Lies.is) c.requires.tidied

pub tidy_turn-requires-clause-slots : goal.tidy_turn-requires-clause-slots
tidy_turn-requires-clause-slots c p low high =
    c.same_until-slot.ensures.slots p low high ∙ c.in-InTurn.is
