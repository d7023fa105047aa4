use Rattle.std.proofs.Common.{◌≤◌, length, arith, refl}
use Rattle.std.proofs.lemmas.List.{get_or_default}
use Rattle.numa_publish.specs.Batches.{Extends}
use Rattle.numa_fault.proofs.OneDesk.{one_worker_more}
use Rattle.numa_fault.proofs.crew.Crew.are_within.Goals as goal

pub loop-w-preserved : goal.loop-w-preserved
loop-w-preserved c =
    let shown = c.if-not-is_within.ensures in
    let extends = shown.extends refl in
    one_worker_more
    (λ w. (length w.reader.history ≤ length c.args.receipt.now.history)
    × Extends w.reader.history c.args.receipt.now.history
    × Extends w.reader.versions c.args.receipt.now.versions)
    c.args.workers.now c.loop-w.w c.index-workers-w.result c.loop-w.invariant
    (λ d. let same = get_or_default c.args.workers.now c.loop-w.w c.index-workers-w.result d
    c.loop-w-test.true in let is = c.index-workers-w.is in cc)
    (shown.is.0 refl, extends.0, extends.1)

pub returns-clause-is : goal.returns-clause-is
returns-clause-is c = (
  (λ told w d inside. (c.loop-w.invariant w d
      (omega (arith, c.loop-w-test.false, c.loop-w.auto.w-end, inside))).0),
  λ all. refl,
)

pub returns-clause-within : goal.returns-clause-within
returns-clause-within c told w d inside =
    let shown = c.loop-w.invariant w d
    (omega (arith, c.loop-w-test.false, c.loop-w.auto.w-end, inside)) in
    (shown.1, shown.2)
