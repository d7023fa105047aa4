use Rattle.std.proofs.Common.{arith}
use Rattle.numa_plan.proofs.EditLemmas.{unused-rest, unused-used}
use Rattle.numa_plan.proofs.slots.leave_all.Goals as goal

pub loop-run-preserved : goal.loop-run-preserved
loop-run-preserved c = record {
  rest = unused-rest c.loop-run.slots.items c.leave_named.new.slots.items _ c.args.runs.now
      c.loop-run.run-index _ (omega arith) c.leave_named.ensures c.loop-run.invariant.rest;
  used = λ k. unused-used c.loop-run.slots.items c.leave_named.new.slots.items c.args.runs.now
      c.loop-run.run-index _ (omega arith) c.leave_named.ensures k (c.loop-run.invariant.used k);
}
