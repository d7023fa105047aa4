use Rattle.std.proofs.Common.{◌*◌, arith}
use Rattle.numa_lanes.proofs.LaneLemmas.{fill_step}
use Rattle.numa_lanes.proofs.fill.fill_vectors.Goals as goal

pub loop-round-preserved : goal.loop-round-preserved
loop-round-preserved c k lt = fill_step c.args.node c.loop-round.out (c.loop-round.round * 32) k
    (omega arith) c.loop-round.invariant (omega arith)
