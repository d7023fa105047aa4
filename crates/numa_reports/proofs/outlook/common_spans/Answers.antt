use Rattle.std.proofs.Common.{arith}
use Rattle.numa_reports.proofs.Meeting.{gathered-end, stepped-one, stepped-other}
use Rattle.numa_reports.proofs.outlook.common_spans.Goals.{then-loop-i-test+else-j-others}
use Rattle.numa_reports.proofs.outlook.common_spans.Goals.{else-loop-i-test}
use Rattle.numa_reports.proofs.outlook.common_spans.Goals as goal

pub loop-i-preserved-then-end_of : goal.loop-i-preserved-then-end_of
loop-i-preserved-then-end_of c = record {
  ones = omega (arith, c.loop-i-test.true);
  others = c.loop-i.invariant.others;
  gathered = λ rises climbs. stepped-one c.args.ones.now c.args.others.now c.loop-i.found.items
      c.add_common.new.found.items c.loop-i.i c.loop-i.j c.end_of.result c.end_of-in-loop-i.result _
      _ (omega (arith, c.loop-i-test.true)) (omega (arith, c.if-j-others.true))
      c.in_ok-add_common.ensures c.end_of.ensures c.end_of-in-loop-i.ensures
      (omega (arith, c.if-end_of.true)) (c.loop-i.invariant.gathered rises climbs);
}

pub loop-i-preserved : goal.loop-i-preserved
loop-i-preserved c = record {
  ones = c.loop-i.invariant.ones;
  others = omega (arith, c.if-j-others.true);
  gathered = λ rises climbs. stepped-other c.args.ones.now c.args.others.now c.loop-i.found.items
      c.add_common.new.found.items c.loop-i.i c.loop-i.j c.end_of.result c.end_of-in-loop-i.result _
      _ (omega (arith, c.loop-i-test.true)) (omega (arith, c.if-j-others.true))
      c.in_ok-add_common.ensures c.end_of.ensures c.end_of-in-loop-i.ensures
      (omega (arith, c.if-end_of.false)) (c.loop-i.invariant.gathered rises climbs);
}

pub returns : goal.returns
returns c = record {
  common = λ rises climbs. gathered-end c.args.ones.now c.args.others.now c.loop-i.found.items
      c.loop-i.i c.loop-i.j
      (λ l m. elim c.loop-i-test.branch [
        | then-loop-i-test+else-j-others w ↦ omega (arith, w.if-j-others)
        | else-loop-i-test w ↦ omega (arith, w.loop-i-test)
      ])
      (c.loop-i.invariant.gathered rises climbs);
}
