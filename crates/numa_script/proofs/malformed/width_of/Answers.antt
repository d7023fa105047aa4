use Rattle.std.proofs.Common.{ap, arith}
use Rattle.numa_script.specs.Causes.{width_of}
use Rattle.numa_script.proofs.Columns.{width_of-take-step}
use Rattle.numa_script.proofs.malformed.width_of.Goals as goal

pub loop-left-preserved : goal.loop-left-preserved
loop-left-preserved c =
    let taken = width_of-take-step c.loop-left.left c.loop-left.words c.next.new.self
    c.in-Some.word.now c.loop-left-test.true c.in-Some.ensures.steps in
    (omega arith, omega (arith, ap width_of c.in-Some.ensures.steps))
