use Rattle.std.proofs.Common.{arith}
use Rattle.numaplan_handles.proofs.Halves.{all-left, narrowed-up, narrowed-down, place-found}
use Rattle.numaplan_handles.proofs.search.place_of.Goals as goal

pub loop-low-init : goal.loop-low-init
loop-low-init c = all-left c.args.space.now.ranges c.args.page c.ranges-high.result
    c.ranges-high.ensures.ranges

pub loop-low-preserved-then-is_before : goal.loop-low-preserved-then-is_before
loop-low-preserved-then-is_before c = narrowed-up c.args.space.now.ranges c.args.page c.loop-low.low
    c.loop-low.high _ c.range_there-range.result c.range_there-range.ensures.rising (omega arith)
    (omega (arith, c.loop-low-test.true)) c.range_there-range.ensures.there
    (c.is_before.ensures.before c.if-is_before.true) c.loop-low.invariant

pub loop-low-preserved : goal.loop-low-preserved
loop-low-preserved c = narrowed-down c.args.space.now.ranges c.args.page c.loop-low.low
    c.loop-low.high _ c.range_there-range.result c.range_there-range.ensures.rising (omega arith)
    (omega (arith, c.loop-low-test.true)) c.range_there-range.ensures.there
    (c.is_before.ensures.reaches c.if-is_before.false) c.loop-low.invariant

pub returns : goal.returns
returns c = place-found c.args.space.now.ranges c.args.page c.loop-low.low c.loop-low.high
    (omega (arith, c.loop-low-test.false)) c.loop-low.invariant
