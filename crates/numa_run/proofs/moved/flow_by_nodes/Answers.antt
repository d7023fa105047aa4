use Rattle.std.proofs.Common.{ℕ, arith, replicate}
use Rattle.std.proofs.lemmas.Simd.{get_or-replicate}
use Rattle.numa_huge.proofs.Flowing.{flow-row}
use Rattle.numa_run.proofs.moved.flow_by_nodes.Goals as goal

pub returns : goal.returns
returns c to small =
    flow-row c.args.told.now.to c.args.told.now.from (replicate 256 0) c.args.from to (omega arith)
    (get_or-replicate {A = ℕ} 256 to 0 0 small)
