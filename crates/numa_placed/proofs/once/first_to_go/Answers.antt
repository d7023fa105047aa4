use Rattle.std.proofs.Common.{arith, inl, inr}
use Rattle.std.proofs.lemmas.Bool.{cases_lt}
use Rattle.numa_placed.proofs.once.first_to_go.Goals as goal

pub loop-next-init : goal.loop-next-init
loop-next-init c = record {
  low = omega arith;
  high = c.requires.rises;
  stay = λ p low high. absurd (omega (arith, low, high));
}

pub loop-next-preserved : goal.loop-next-preserved
loop-next-preserved c = record {
  low = omega (arith, c.loop-next.invariant.low, c.stay_until-until.ensures.low);
  high = c.stay_until-until.ensures.high;
  stay = λ p low high. elim (cases_lt p c.loop-next.next) [
    | inl l ↦ c.loop-next.invariant.stay p low l
    | inr g ↦ c.stay_until-until.ensures.stay p g high
  ];
}
