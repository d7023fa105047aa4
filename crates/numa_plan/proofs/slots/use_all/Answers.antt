use Rattle.std.proofs.Common.{arith, ◌∙◌}
use Rattle.numa_plan.proofs.EditLemmas.{used-rest, used-there, used-few}
use Rattle.numa_plan.proofs.slots.use_all.Goals as goal

pub loop-run-preserved : goal.loop-run-preserved
loop-run-preserved c = record {
  rest = used-rest c.loop-run.slots.items c.use_named.new.slots.items _ c.args.runs.now
      c.loop-run.run-index _ (omega arith) c.use_named.ensures c.loop-run.invariant.rest;
  there = λ k. used-there c.loop-run.slots.items c.use_named.new.slots.items _ c.use_named.ensures k
      ∙ c.loop-run.invariant.there k;
  few =
      λ k.
      omega (
        arith,
        used-few c.loop-run.slots.items c.use_named.new.slots.items _
            c.use_named.ensures k,
        c.loop-run.invariant.few k,
      );
}
