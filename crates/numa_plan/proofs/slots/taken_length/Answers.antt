use Rattle.std.proofs.Common.{arith, sym, ◌∙◌}
use Rattle.numa_plan.proofs.EditLemmas.{trim-on, trim-stops}
use Rattle.numa_plan.proofs.slots.taken_length.Goals as goal

pub returns-then-not-is_free-clause-kept : goal.returns-then-not-is_free-clause-kept
returns-then-not-is_free-clause-kept c =
    trim-stops c.args.slots.now c.loop-kept.kept c.index-slots-kept.result
    (omega (arith, c.loop-kept-test.true)) c.loop-kept.invariant.within c.index-slots-kept.is
    (sym c.is_free.ensures ∙ c.if-not-is_free.true) c.loop-kept.invariant.same

pub loop-kept-preserved : goal.loop-kept-preserved
loop-kept-preserved c = record {
  within = omega (arith, c.loop-kept.invariant.within);
  same = trim-on c.args.slots.now c.loop-kept.kept c.index-slots-kept.result
      (omega (arith, c.loop-kept-test.true)) c.loop-kept.invariant.within c.index-slots-kept.is
      (sym c.is_free.ensures ∙ c.if-not-is_free.false) c.loop-kept.invariant.same;
}
