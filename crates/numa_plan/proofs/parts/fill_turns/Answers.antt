use Rattle.std.proofs.Common.{arith}
use Rattle.numa_plan.proofs.PartLemmas.{cycled-small}
use Rattle.numa_plan.proofs.parts.fill_turns.Goals as goal

pub returns-then-index-out-lt-SMALL_END : goal.returns-then-index-out-lt-SMALL_END
returns-then-index-out-lt-SMALL_END c =
    cycled-small c.args.cycle.now c.fill_cycle.new.out c.args.index
    (omega (arith, c.if-index-out-lt-SMALL_END.true, c.fill_cycle.auto.out)) c.fill_cycle.ensures
