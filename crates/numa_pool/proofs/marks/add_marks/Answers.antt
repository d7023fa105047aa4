use Rattle.std.proofs.Common.{arith}
use Rattle.numa_pool.proofs.Marking.{joined}
use Rattle.numa_pool.proofs.marks.add_marks.Goals as goal

pub returns-clause-bits : goal.returns-clause-bits
returns-clause-bits c =
    let i = c.loop-i.invariant in
    joined c.args.bits.now.items c.args.other.now c.loop-i.bits.items c.requires i.wide
    (λ j l. i.before j (omega arith))
