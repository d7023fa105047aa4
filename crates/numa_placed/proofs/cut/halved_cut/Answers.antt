use Rattle.std.proofs.Common.{arith}
use Rattle.numa_placed.specs.Turns.{spots_of}
use Rattle.numa_placed.proofs.Halving.{part-begins, part-ends-high, part-ends-low}
use Rattle.numa_placed.proofs.cut.halved_cut.Goals as goal

pub loop-part-init : goal.loop-part-init
loop-part-init c = record {
  part = part-begins (spots_of c.args.places.now) c.args.node c.args.first c.args.end c.args.pages
      c.requires.rises c.requires.few;
  within = c.requires.within;
}

pub loop-part-preserved : goal.loop-part-preserved
loop-part-preserved c = record {
  part = c.half_of-part.ensures.half c.args.first c.args.end c.args.pages
      c.loop-part.invariant.part;
  within = omega (arith, c.half_of-part.ensures.high, c.loop-part.invariant.within);
}

pub returns-then-part-eq0-clause-cut : goal.returns-then-part-eq0-clause-cut
returns-then-part-eq0-clause-cut c =
    part-ends-low (spots_of c.args.places.now) c.args.node c.args.first c.args.end c.args.pages
    c.loop-part.part c.loop-part.invariant.part (omega (arith, c.if-part-eq0.true))

pub returns-then-part-eq0-clause-low : goal.returns-then-part-eq0-clause-low
returns-then-part-eq0-clause-low c = c.loop-part.invariant.part.low

pub returns-then-part-eq0-clause-high : goal.returns-then-part-eq0-clause-high
returns-then-part-eq0-clause-high c =
    omega (arith, c.loop-part.invariant.part.rises, c.loop-part.invariant.part.high)

pub returns-clause-cut : goal.returns-clause-cut
returns-clause-cut c =
    part-ends-high (spots_of c.args.places.now) c.args.node c.args.first c.args.end c.args.pages
    c.loop-part.part c.loop-part.invariant.part (omega arith) (omega (arith, c.if-part-eq0.false))

pub returns-clause-low : goal.returns-clause-low
returns-clause-low c =
    omega (arith, c.loop-part.invariant.part.low, c.loop-part.invariant.part.rises)

pub returns-clause-high : goal.returns-clause-high
returns-clause-high c = c.loop-part.invariant.part.high
