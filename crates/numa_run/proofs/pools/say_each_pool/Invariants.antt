use Rattle.numa_lines.specs.Written.{Said}
use Rattle.numa_run.proofs.Telling.{pool_at, texts_below}
use Rattle.numa_run.proofs.pools.say_each_pool.Given as goal

abbrev pub invariant-loop-node : goal.invariant-loop-node
invariant-loop-node g l = Said g.W.Write.contents l.fn.output l.output
    (texts_below (pool_at l.pools) l.node)
