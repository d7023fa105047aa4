use Rattle.std.proofs.Common.{arith}
use Rattle.numa_lines.proofs.Adding.{said_both, said_same}
use Rattle.numa_run.proofs.Sums.{sum-split}
use Rattle.numa_run.proofs.moved.say_sum.Goals as goal

pub returns : goal.returns
returns g c =
    said_same g.W.Write.contents c.args.output.now c.say_number-3.new.self _ _
    (sum-split c.args.text.now c.args.one c.args.other (omega (arith, c.if-other-one.false))
    (omega (arith, c.ranges.one.fits, c.ranges.other.fits)))
    (said_both g.W.Write.contents c.args.output.now c.say_number-2.new.output
    c.say_number-3.new.self _ _ c.say_number-2.ensures c.say_number-3.ensures)
