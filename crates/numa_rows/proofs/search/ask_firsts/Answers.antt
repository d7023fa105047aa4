-- One turn: the first row of a chunk is asked where it is left.
use Rattle.std.proofs.Common.{arith}
use Rattle.numa_rows.proofs.search.ask_firsts.Goals as goal

pub loop-low-preserved-then-left-rank : goal.loop-low-preserved-then-left-rank
loop-low-preserved-then-left-rank g c = record {
  places = c.loop-low.invariant.places;
  within = c.ask_left-left.ensures.within;
  narrowed = λ p gives parted so. c.ask_left-left.ensures.narrowed p gives parted
      (c.loop-low.invariant.narrowed p gives parted so);
}

pub loop-low-preserved : goal.loop-low-preserved
loop-low-preserved g c = record {
  places = omega (arith, c.loop-low.invariant.places);
  within = c.ask_left-left.ensures.within;
  narrowed = λ p gives parted so. c.ask_left-left.ensures.narrowed p gives parted
      (c.loop-low.invariant.narrowed p gives parted so);
}

pub loop-low-init : goal.loop-low-init
loop-low-init g c = record {
  places = c.requires.places;
  within = c.requires.within;
  narrowed = λ p gives parted so. so;
}

pub ask_left-left-requires-clause-callable : goal.ask_left-left-requires-clause-callable
ask_left-left-requires-clause-callable g c = c.requires.callable

pub ask_left-left-requires-clause-table : goal.ask_left-left-requires-clause-table
ask_left-left-requires-clause-table g c = c.requires.table

pub ask_left-left-requires-clause-within : goal.ask_left-left-requires-clause-within
ask_left-left-requires-clause-within g c = c.loop-low.invariant.within

pub returns-clause-within : goal.returns-clause-within
returns-clause-within g c = c.loop-low.invariant.within

pub returns-clause-narrowed : goal.returns-clause-narrowed
returns-clause-narrowed g c = c.loop-low.invariant.narrowed
