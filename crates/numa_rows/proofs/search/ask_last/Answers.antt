-- What the last row of a chunk tells of the others.
use Rattle.std.proofs.Common.{arith, refl}
use Rattle.numa_rows.proofs.search.ask_last.Goals as goal

pub last_rank-last-requires-clause-has : goal.last_rank-last-requires-clause-has
last_rank-last-requires-clause-has g c = c.requires.has

pub last_rank-last-requires-clause-small : goal.last_rank-last-requires-clause-small
last_rank-last-requires-clause-small g c =
    omega (arith, c.requires.part.within, c.requires.table.count, c.requires.table.small)

pub ask-left-requires-clause-callable : goal.ask-left-requires-clause-callable
ask-left-requires-clause-callable g c = c.requires.callable

pub ask-left-requires-clause-part : goal.ask-left-requires-clause-part
ask-left-requires-clause-part g c = c.requires.part

pub ask-left-requires-clause-has : goal.ask-left-requires-clause-has
ask-left-requires-clause-has g c = c.last_rank-last.ensures

pub ask-left-requires-clause-within : goal.ask-left-requires-clause-within
ask-left-requires-clause-within g c = omega (arith, c.requires.table.count, c.requires.within)

pub ask-left-requires-clause-small : goal.ask-left-requires-clause-small
ask-left-requires-clause-small g c = omega (arith, c.requires.table.small, c.requires.within)

pub ask_firsts-requires-clause-callable : goal.ask_firsts-requires-clause-callable
ask_firsts-requires-clause-callable g c = c.requires.callable

pub ask_firsts-requires-clause-table : goal.ask_firsts-requires-clause-table
ask_firsts-requires-clause-table g c = c.requires.table

pub ask_firsts-requires-clause-within : goal.ask_firsts-requires-clause-within
ask_firsts-requires-clause-within g c = omega (arith, c.ask-left.ensures.within, c.requires.within)

pub returns-then-not-has-clause-within : goal.returns-then-not-has-clause-within
returns-then-not-has-clause-within g c = c.requires.within

pub returns-then-not-has-clause-narrowed : goal.returns-then-not-has-clause-narrowed
returns-then-not-has-clause-narrowed g c p gives parted so = so

pub returns-then-left-last-clause-within : goal.returns-then-left-last-clause-within
returns-then-left-last-clause-within g c = c.ask_firsts.ensures.within

pub returns-then-left-last-clause-narrowed : goal.returns-then-left-last-clause-narrowed
returns-then-left-last-clause-narrowed g c p gives parted so =
    c.ask_firsts.ensures.narrowed p gives parted (c.ask-left.ensures.narrowed p gives parted so)

pub returns-clause-within : goal.returns-clause-within
returns-clause-within g c = omega (arith, c.ask-left.ensures.within, c.requires.within)

pub returns-clause-narrowed : goal.returns-clause-narrowed
returns-clause-narrowed g c p gives parted so = c.ask-left.ensures.narrowed p gives parted so

pub has-requires : goal.has-requires
has-requires g c = omega (arith, c.requires.within, c.requires.table.small)

pub ask-left-requires-clause-from : goal.ask-left-requires-clause-from
ask-left-requires-clause-from g c = c.if-not-has.ensures.from refl

pub ask-left-requires-clause-to : goal.ask-left-requires-clause-to
ask-left-requires-clause-to g c = c.if-not-has.ensures.to refl
