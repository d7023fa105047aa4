use Rattle.numa_compile.proofs.PutLemmas.{dropped-none, dropped-next}
use Rattle.numa_compile.proofs.recompiler.put.drop_all.Goals as goal

pub loop-run-init : goal.loop-run-init
loop-run-init c = dropped-none c.args.plan.now

pub loop-run-preserved : goal.loop-run-preserved
loop-run-preserved c = dropped-next c.args.plan.now c.loop-run.plan c.drop_unused.new.plan
    c.loop-run.invariant c.drop_unused.ensures.rest c.drop_unused.ensures.slots
