use Rattle.std.proofs.Common.{◌≡◌, ◌∙◌, ap, arith, inl, inr, sym}
use Rattle.std.proofs.lemmas.Bool.{cases_lt}
use Rattle.numa_placed.specs.Turns.{spots_of}
use Rattle.numa_placed.proofs.stay.stay_of.Goals as goal

pub loop-end-init : goal.loop-end-init
loop-end-init c = record {
  rises = omega arith;
  within = omega (arith, c.requires.near);
  alike = λ p low high. absurd (omega (arith, low, high));
}

pub loop-end-preserved : goal.loop-end-preserved
loop-end-preserved c = record {
  rises = omega (arith, c.loop-end.invariant.rises, c.alike_until-next.ensures.rises);
  within = c.alike_until-next.ensures.within;
  alike = λ p low high. elim (cases_lt p c.loop-end.end) [
    | inl l ↦ c.loop-end.invariant.alike p low l
    | inr g ↦ c.alike_until-next.ensures.alike p g high
  ];
}

pub returns-then-next-end-clause-rises : goal.returns-then-next-end-clause-rises
returns-then-next-end-clause-rises c = elim (cases_lt c.args.page c.loop-end.end) [
  | inl l ↦ l
  | inr g ↦
      let at : c.loop-end.end ≡ c.args.page = omega (arith, g, c.loop-end.invariant.rises) in
      absurd (c.alike_until-next.ensures.ends (omega (arith, c.if-next-end.true))
      (ap (spots_of c.args.places.now) at ∙ sym c.spot_of-spot.ensures))
]

pub returns-then-next-end-clause-ends : goal.returns-then-next-end-clause-ends
returns-then-next-end-clause-ends c near =
    c.alike_until-next.ensures.ends (omega (arith, c.if-next-end.true))
