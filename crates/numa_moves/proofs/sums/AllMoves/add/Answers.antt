use Rattle.std.proofs.Common.{◌<◌, ◌∙◌, arith, refl, rules}
use Rattle.numa_moves.specs.Sums.{flow_of}
use Rattle.numa_moves.proofs.Totals.{counts-ahead, counts-next, flow-ahead, flow-next}
use Rattle.numa_moves.proofs.sums.AllMoves.add.Goals as goal

pub add_between-requires : goal.add_between-requires
add_between-requires c = record { whole = c.loop-place.invariant.whole }

pub loop-place-init : goal.loop-place-init
loop-place-init c = record {
  whole = c.requires.whole;
  placed = search rules;
  moved = search rules;
  flows = λ from to none t. absurd (omega (arith, none));
  flows_ahead = λ from to le f t. refl;
  stays = λ node none. absurd (omega (arith, none));
  stays_ahead = λ node le small. refl;
  lacking = λ node none. absurd (omega (arith, none));
  lacking_ahead = λ node le small. refl;
}

pub loop-place-preserved : goal.loop-place-preserved
loop-place-preserved c =
    let k = c.loop-place.place in
    let so = c.loop-place.invariant in
    let inside : k < 256 = c.loop-place-test.true in
    record {
      whole = c.add_between.ensures.whole;
      placed = c.add_between.ensures.others.2 ∙ so.placed;
      moved = c.add_between.ensures.others.3 ∙ so.moved;
      flows = λ from to low t.
          flow-next (flow_of c.add_between.new.self) (flow_of c.loop-place.self)
          (flow_of c.args.self.now) c.args.sum.now.to c.args.sum.now.gone k from to
          (c.add_between.ensures.flows from to (omega (arith, low, inside)) t)
          (λ le. so.flows_ahead from to le (omega (arith, low, inside)) t)
          (λ lt. so.flows from to lt t) (omega (arith, low));
      flows_ahead = λ from to le f t.
          flow-ahead (flow_of c.add_between.new.self) (flow_of c.loop-place.self) _ k from to
          (c.add_between.ensures.flows from to f t) (omega (arith, le))
          ∙ so.flows_ahead from to (omega (arith, le)) f t;
      stays = λ node low.
          counts-next c.add.new.counts c.add_between.new.self.stays c.loop-place.self.stays
          c.args.self.now.stays c.args.sum.now.stays k node
          (c.add.ensures node (omega (arith, low, inside))) c.add_between.ensures.others.0
          (λ le. so.stays_ahead node le (omega (arith, low, inside)))
          (λ lt. so.stays node lt) (omega (arith, low));
      stays_ahead = λ node le small.
          counts-ahead c.add.new.counts c.add_between.new.self.stays c.loop-place.self.stays _ k
          node (c.add.ensures node small) c.add_between.ensures.others.0 (omega (arith, le))
          ∙ so.stays_ahead node (omega (arith, le)) small;
      lacking = λ node low.
          counts-next c.add-in-loop-place.new.counts c.add_between.new.self.lacking
          c.loop-place.self.lacking c.args.self.now.lacking c.args.sum.now.lacking k node
          (c.add-in-loop-place.ensures node (omega (arith, low, inside)))
          c.add_between.ensures.others.1
          (λ le. so.lacking_ahead node le (omega (arith, low, inside)))
          (λ lt. so.lacking node lt) (omega (arith, low));
      lacking_ahead = λ node le small.
          counts-ahead c.add-in-loop-place.new.counts c.add_between.new.self.lacking
          c.loop-place.self.lacking _ k node (c.add-in-loop-place.ensures node small)
          c.add_between.ensures.others.1 (omega (arith, le))
          ∙ so.lacking_ahead node (omega (arith, le)) small;
    }

pub returns : goal.returns
returns c = record {
  placed = c.loop-place.invariant.placed;
  moved = c.loop-place.invariant.moved;
  flows = λ from to f t. c.loop-place.invariant.flows from to (omega (
    arith,
    f,
    c.loop-place.auto.place-end,
    c.loop-place-test.false,
  )) t;
  stays = λ node small. c.loop-place.invariant.stays node (omega (
    arith,
    small,
    c.loop-place.auto.place-end,
    c.loop-place-test.false,
  ));
  lacking = λ node small. c.loop-place.invariant.lacking node (omega (
    arith,
    small,
    c.loop-place.auto.place-end,
    c.loop-place-test.false,
  ));
  whole = c.loop-place.invariant.whole;
}
