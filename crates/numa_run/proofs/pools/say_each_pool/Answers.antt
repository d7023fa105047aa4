use Rattle.std.proofs.Common.{sym, arith}
use Rattle.numa_lines.proofs.Adding.{said_both, said_nothing, said_same}
use Rattle.numa_run.proofs.Telling.{pool_at, pools-all, texts-more, texts-none}
use Rattle.numa_run.proofs.pools.say_each_pool.Goals as goal

pub loop-node-init : goal.loop-node-init
loop-node-init g c =
    said_same g.W.Write.contents c.args.output.now c.args.output.now _ _
    (sym (texts-none (pool_at c.args.pools.now)))
    (said_nothing g.W.Write.contents c.args.output.now)

pub loop-node-preserved : goal.loop-node-preserved
loop-node-preserved g c =
    said_same g.W.Write.contents c.args.output.now c.say_pool_of.new.output _ _
    (sym (texts-more (pool_at c.args.pools.now) c.loop-node.node))
    (said_both g.W.Write.contents c.args.output.now c.loop-node.output c.say_pool_of.new.output
    _ _ c.loop-node.invariant c.say_pool_of.ensures)

pub returns : goal.returns
returns g c =
    said_same g.W.Write.contents c.args.output.now c.loop-node.output _ _
    (pools-all c.args.pools.now c.loop-node.node
    (omega (arith, c.loop-node.auto.node-end, c.loop-node-test.false))) c.loop-node.invariant
