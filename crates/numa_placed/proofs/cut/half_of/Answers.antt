use Rattle.std.proofs.Common.{arith}
use Rattle.numa_placed.specs.Turns.{spots_of}
use Rattle.numa_placed.proofs.Halving.{part-behind, part-below}
use Rattle.numa_placed.proofs.cut.half_of.Goals as goal

pub returns-then-here-part-clause-half : goal.returns-then-here-part-clause-half
returns-then-here-part-clause-half c first end pages is =
    let middle = c.middle_of-middle.ensures in
    part-behind (spots_of c.args.places.now) c.args.node first end pages c.args.part is
    c.middle_of-middle.result c.count_on-here.result (omega (arith, middle.above))
    (omega (arith, middle.below)) c.count_on-here.ensures (omega (arith, c.if-here-part.true))

pub returns-clause-half : goal.returns-clause-half
returns-clause-half c first end pages is =
    let middle = c.middle_of-middle.ensures in
    part-below (spots_of c.args.places.now) c.args.node first end pages c.args.part is
    c.middle_of-middle.result c.count_on-here.result (omega (arith, middle.above))
    (omega (arith, middle.below)) c.count_on-here.ensures (omega (arith, c.if-here-part.false))
