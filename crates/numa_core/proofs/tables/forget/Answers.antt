use Rattle.std.proofs.Common.{arith}
use Rattle.numa_core.proofs.MarkedFrames.{bit_cleared}
use Rattle.numa_core.proofs.tables.forget.Goals as goal

pub returns-clause-met : goal.returns-clause-met
returns-clause-met c p = bit_cleared c.args.met.now.items c.args.place c.index_mut.result.now p
    (omega (arith, c.requires, c.args.met.now.ok.0)) c.index_mut.ensures.value
