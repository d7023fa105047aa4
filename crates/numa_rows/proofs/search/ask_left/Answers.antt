-- What is left lies within the list.
use Rattle.std.proofs.Common.{arith, refl}
use Rattle.numa_rows.specs.Parts.{flat}
use Rattle.numa_rows.proofs.search.ask_left.Goals as goal

pub ask-requires-clause-within : goal.ask-requires-clause-within
ask-requires-clause-within g c = omega (arith, c.requires.within, c.requires.table.count)

pub ask-requires-clause-small : goal.ask-requires-clause-small
ask-requires-clause-small g c = omega (arith, c.requires.within, c.requires.table.small)

pub returns-then-not-has-clause-narrowed : goal.returns-then-not-has-clause-narrowed
returns-then-not-has-clause-narrowed g c p gives parted so = so

pub returns-clause-within : goal.returns-clause-within
returns-clause-within g c = omega (arith, c.requires.within, c.ask.ensures.within)

pub returns-clause-narrowed : goal.returns-clause-narrowed
returns-clause-narrowed g c p gives parted so = c.ask.ensures.narrowed p gives parted so

pub part_of-part-requires-clause-table : goal.part_of-part-requires-clause-table
part_of-part-requires-clause-table g c = c.requires.table

pub ask-requires-clause-callable : goal.ask-requires-clause-callable
ask-requires-clause-callable g c = c.requires.callable

pub ask-requires-clause-part : goal.ask-requires-clause-part
ask-requires-clause-part g c = c.part_of-part.ensures.part

pub ask-requires-clause-has : goal.ask-requires-clause-has
ask-requires-clause-has g c = c.part_of-part.ensures.has

pub returns-then-not-has-clause-within : goal.returns-then-not-has-clause-within
returns-then-not-has-clause-within g c = c.requires.within

pub has-requires : goal.has-requires
has-requires g c = omega (arith, c.requires.within, c.requires.table.small)

pub part_of-part-requires-clause-rank : goal.part_of-part-requires-clause-rank
part_of-part-requires-clause-rank g c =
    omega (arith, c.if-not-has.ensures.to refl, c.requires.within)

pub part_of-part-requires-clause-part : goal.part_of-part-requires-clause-part
part_of-part-requires-clause-part g c = c.empty.ensures (flat c.args.chunks.now)

pub ask-requires-clause-from : goal.ask-requires-clause-from
ask-requires-clause-from g c = c.if-not-has.ensures.from refl

pub ask-requires-clause-to : goal.ask-requires-clause-to
ask-requires-clause-to g c = c.if-not-has.ensures.to refl
