use Rattle.std.proofs.Common.{arith, refl}
use Rattle.numa_core.proofs.Cursors.{passed-further, cursor-here}
use Rattle.numa_core.proofs.seat.first_from.Goals as goal

pub loop-rank-preserved : goal.loop-rank-preserved
loop-rank-preserved c = passed-further c.args.places.now c.args.nodes.now c.args.met.now.items
    c.loop-rank.rank c.loop-rank.next c.loop-rank.invariant
    (λ k high few. c.in_default.ensures.none k refl high few)

pub returns-in-Some : goal.returns-in-Some
returns-in-Some c =
    let found = c.in-Some.ensures.some in
    cursor-here c.args.places.now c.args.nodes.now c.args.met.now.items c.loop-rank.rank
    c.loop-rank.next c.in-Some.next c.loop-rank.invariant c.loop-rank-test.true found.0 found.1
    found.2 found.3

pub returns : goal.returns
returns c i k low few = c.loop-rank.invariant.earlier i k (omega (arith, c.loop-rank-test.false))
    few
