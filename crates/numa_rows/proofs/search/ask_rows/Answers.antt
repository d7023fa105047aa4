-- One turn: a row that is left is asked.
use Rattle.std.proofs.Common.{◌≡◌, arith, subst}
use Rattle.numa_rows.specs.Parts.{flat}
use Rattle.numa_rows.specs.Searches.{IsNarrowed}
use Rattle.numa_rows.proofs.search.ask_rows.Goals as goal

pub ask-left-requires-clause-within : goal.ask-left-requires-clause-within
ask-left-requires-clause-within g c =
    omega (arith, c.loop-left.invariant.within, c.requires.table.count)

pub ask-left-requires-clause-small : goal.ask-left-requires-clause-small
ask-left-requires-clause-small g c =
    omega (arith, c.loop-left.invariant.within, c.requires.table.small)

pub loop-left-preserved : goal.loop-left-preserved
loop-left-preserved g c = record {
  within = omega (arith, c.ask-left.ensures.within, c.loop-left.invariant.within);
  stands = c.part_of-part.ensures.part;
  narrowed = λ p gives parted so. c.ask-left.ensures.narrowed p gives parted
      (c.loop-left.invariant.narrowed p gives parted so);
}

pub returns-clause-narrowed : goal.returns-clause-narrowed
returns-clause-narrowed g c p gives parted so =
    let none : c.loop-left.left.size ≡ 0 = omega (arith, c.loop-left-test.false) in
    subst (λ n. IsNarrowed p (flat c.args.chunks.now) c.loop-left.left.base n) none
    (c.loop-left.invariant.narrowed p gives parted so)

pub part_of-part-requires-clause-table : goal.part_of-part-requires-clause-table
part_of-part-requires-clause-table g c = c.requires.table

pub part_of-part-requires-clause-part : goal.part_of-part-requires-clause-part
part_of-part-requires-clause-part g c = c.loop-left.invariant.stands

pub ask-left-requires-clause-callable : goal.ask-left-requires-clause-callable
ask-left-requires-clause-callable g c = c.requires.callable

pub ask-left-requires-clause-part : goal.ask-left-requires-clause-part
ask-left-requires-clause-part g c = c.part_of-part.ensures.part

pub ask-left-requires-clause-has : goal.ask-left-requires-clause-has
ask-left-requires-clause-has g c = c.part_of-part.ensures.has

pub returns-clause-within : goal.returns-clause-within
returns-clause-within g c = omega (arith, c.loop-left.invariant.within)

pub loop-left-init : goal.loop-left-init
loop-left-init g c = record {
  within = c.requires.within;
  stands = c.empty-part.ensures (flat c.args.chunks.now);
  narrowed = λ p gives parted so. so;
}

pub loop-left-smaller : goal.loop-left-smaller
loop-left-smaller g c = c.ask-left.ensures.less

pub part_of-part-requires-clause-rank : goal.part_of-part-requires-clause-rank
part_of-part-requires-clause-rank g c =
    omega (arith, c.loop-left.invariant.within, c.loop-left-test.true)

pub ask-left-requires-clause-from : goal.ask-left-requires-clause-from
ask-left-requires-clause-from g c = omega arith

pub ask-left-requires-clause-to : goal.ask-left-requires-clause-to
ask-left-requires-clause-to g c = omega (arith, c.loop-left-test.true)
