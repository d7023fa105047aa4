use Rattle.std.proofs.Common.{arith}
use Rattle.numa_core.proofs.InARow.{bit_set}
use Rattle.numa_core.proofs.tables.meet.Goals as goal

pub returns-clause-met : goal.returns-clause-met
returns-clause-met c p = bit_set c.args.met.now.items c.args.place c.index_mut.result.now p
    (omega (arith, c.requires, c.args.met.now.ok.0)) c.index_mut.ensures.value
