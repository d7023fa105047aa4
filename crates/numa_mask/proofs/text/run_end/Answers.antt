use Rattle.std.proofs.Common.{◌≡◌, ◌+◌, false, true, arith, sym, ap, ◌∙◌}
use Rattle.numa_mask.specs.NodeSet.{has}
use Rattle.numa_mask.specs.Lists.{run_end}
use Rattle.numa_mask.proofs.Writing.{run_more, run_over, run_full}
use Rattle.numa_mask.proofs.text.run_end.Goals as goal
use Rattle.numa_mask.proofs.text.run_end.Goals.{then-loop-last-test+else-has, else-loop-last-test}

pub loop-last-init : goal.loop-last-init
loop-last-init c = record {
  ends = ap (run_end c.args.set.now) c.number-last.ensures.number;
  within = omega arith;
}

pub loop-last-preserved : goal.loop-last-preserved
loop-last-preserved c =
    let member : has c.args.set.now (c.loop-last.last + 1) ≡ true = sym c.has.ensures
    ∙ c.if-has.true in
    record {
      ends =
          omega (
            arith,
            c.loop-last.invariant.ends,
            run_more c.args.set.now c.args.first
                c.loop-last.last c.loop-last-test.true member,
          );
      within = omega arith;
    }

pub returns : goal.returns
returns c = c.of.ensures ∙ elim c.loop-last-test.branch [
  | then-loop-last-test+else-has w ↦
      let none : has c.args.set.now (c.loop-last.last + 1) ≡ false = sym w.has.ensures
      ∙ w.if-has.false in
      omega (
        arith,
        c.loop-last.invariant.ends,
        run_over c.args.set.now c.loop-last.last
            w.loop-last-test.true none,
      )
  | else-loop-last-test w ↦
      omega (
        arith,
        c.loop-last.invariant.ends,
        run_full c.args.set.now c.loop-last.last
            w.loop-last-test.false,
      )
]
