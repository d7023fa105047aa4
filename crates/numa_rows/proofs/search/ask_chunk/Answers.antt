-- What the first row of a chunk tells of the others.
use Rattle.std.proofs.Common.{arith, refl}
use Rattle.numa_rows.specs.Parts.{flat}
use Rattle.numa_rows.proofs.InParts.{some-part}
use Rattle.numa_rows.proofs.search.ask_chunk.Goals as goal

pub overflow_sub-starts : goal.overflow_sub-starts
overflow_sub-starts g c =
    (some-part 6144 c.args.chunks.now c.args.starts.now c.args.len 0 c.requires.table
    c.requires.some).0

pub bounds-starts-near : goal.bounds-starts-near
bounds-starts-near g c =
    omega (
      arith,
      (some-part 6144 c.args.chunks.now c.args.starts.now c.args.len 0 c.requires.table
          c.requires.some).0,
    )

pub part_of-part-requires-clause-table : goal.part_of-part-requires-clause-table
part_of-part-requires-clause-table g c = c.requires.table

pub ask-left-requires-clause-callable : goal.ask-left-requires-clause-callable
ask-left-requires-clause-callable g c = c.requires.callable

pub ask-left-requires-clause-part : goal.ask-left-requires-clause-part
ask-left-requires-clause-part g c = c.part_of-part.ensures.part

pub ask-left-requires-clause-has : goal.ask-left-requires-clause-has
ask-left-requires-clause-has g c = c.part_of-part.ensures.has

pub ask-left-requires-clause-within : goal.ask-left-requires-clause-within
ask-left-requires-clause-within g c = omega (arith, c.requires.table.count)

pub ask-left-requires-clause-small : goal.ask-left-requires-clause-small
ask-left-requires-clause-small g c = omega (arith, c.requires.table.small)

pub ask_firsts-requires-clause-callable : goal.ask_firsts-requires-clause-callable
ask_firsts-requires-clause-callable g c = c.requires.callable

pub ask_firsts-requires-clause-table : goal.ask_firsts-requires-clause-table
ask_firsts-requires-clause-table g c = c.requires.table

pub ask_firsts-requires-clause-within : goal.ask_firsts-requires-clause-within
ask_firsts-requires-clause-within g c = omega (arith, c.ask-left.ensures.within)

pub ask_last-requires-clause-callable : goal.ask_last-requires-clause-callable
ask_last-requires-clause-callable g c = c.requires.callable

pub ask_last-requires-clause-table : goal.ask_last-requires-clause-table
ask_last-requires-clause-table g c = c.requires.table

pub ask_last-requires-clause-part : goal.ask_last-requires-clause-part
ask_last-requires-clause-part g c = c.part_of-part.ensures.part

pub ask_last-requires-clause-has : goal.ask_last-requires-clause-has
ask_last-requires-clause-has g c = c.part_of-part.ensures.has

pub ask_last-requires-clause-place : goal.ask_last-requires-clause-place
ask_last-requires-clause-place g c =
    omega (
      arith,
      (some-part 6144 c.args.chunks.now c.args.starts.now c.args.len 0 c.requires.table
          c.requires.some).0,
    )

pub ask_last-requires-clause-within : goal.ask_last-requires-clause-within
ask_last-requires-clause-within g c = omega (arith, c.ask-left.ensures.within)

pub returns-then-not-has-clause-narrowed : goal.returns-then-not-has-clause-narrowed
returns-then-not-has-clause-narrowed g c p gives parted so = so

pub returns-then-left-rank-clause-within : goal.returns-then-left-rank-clause-within
returns-then-left-rank-clause-within g c = c.ask_firsts.ensures.within

pub returns-then-left-rank-clause-narrowed : goal.returns-then-left-rank-clause-narrowed
returns-then-left-rank-clause-narrowed g c p gives parted so = c.ask_firsts.ensures.narrowed p gives
    parted (c.ask-left.ensures.narrowed p gives parted so)

pub returns-clause-within : goal.returns-clause-within
returns-clause-within g c = c.ask_last.ensures.within

pub returns-clause-narrowed : goal.returns-clause-narrowed
returns-clause-narrowed g c p gives parted so = c.ask_last.ensures.narrowed p gives parted
    (c.ask-left.ensures.narrowed p gives parted so)

pub has-requires : goal.has-requires
has-requires g c = omega (arith, c.requires.table.small)

pub part_of-part-requires-clause-rank : goal.part_of-part-requires-clause-rank
part_of-part-requires-clause-rank g c = omega (arith, c.if-not-has.ensures.to refl)

pub part_of-part-requires-clause-part : goal.part_of-part-requires-clause-part
part_of-part-requires-clause-part g c = c.empty.ensures (flat c.args.chunks.now)

pub ask-left-requires-clause-from : goal.ask-left-requires-clause-from
ask-left-requires-clause-from g c = c.if-not-has.ensures.from refl

pub ask-left-requires-clause-to : goal.ask-left-requires-clause-to
ask-left-requires-clause-to g c = c.if-not-has.ensures.to refl

pub ask_firsts-requires-clause-places : goal.ask_firsts-requires-clause-places
ask_firsts-requires-clause-places g c =
    omega (
      arith,
      (some-part 6144 c.args.chunks.now c.args.starts.now c.args.len 0 c.requires.table
          c.requires.some).0,
    )

pub returns-then-not-has-clause-within : goal.returns-then-not-has-clause-within
returns-then-not-has-clause-within g c = omega arith
