-- The walk stops at a run that starts behind the page, or behind the last.
use Rattle.std.proofs.Common.{◌∙◌, arith}
use Rattle.numa_ranges.proofs.Walked.{step-short, count-begins, count-on, count-stops, count-ends}
use Rattle.numa_ranges.proofs.walk.starts_on.Goals as goal

pub loop-run-init : goal.loop-run-init
loop-run-init g c =
    count-begins c.args.runs.now c.into_iter-run-iterator.result c.args.place c.args._first
    c.args.page c.requires.rises c.requires.within c.requires.parts
    (c.into_iter-run-iterator.ensures.into_iter_gives ∙ c.iter_near-run-items.ensures)

pub overflow_add-count : goal.overflow_add-count
overflow_add-count g c =
    let short = step-short c.args.runs.now c.loop-run.run-iterator c.next.new.self c.loop-run.count
    c.in-Some.run' c.loop-run.invariant.ahead c.in-Some.ensures.steps in
    omega (arith, short, c.len.ensures.len, c.len.ensures.bound)

pub loop-run-preserved : goal.loop-run-preserved
loop-run-preserved g c = count-on c.args.runs.now c.loop-run.run-iterator c.next.new.self
    c.in-Some.run' c.loop-run.count c.args.page c.loop-run.invariant c.in-Some.ensures.steps
    (omega arith)

pub returns-then-run-page-clause-parts : goal.returns-then-run-page-clause-parts
returns-then-run-page-clause-parts g c =
    count-stops c.args.runs.now c.loop-run.run-iterator c.next.new.self c.in-Some.run'
    c.loop-run.count c.args.page c.requires.apart c.loop-run.invariant c.in-Some.ensures.steps
    (omega arith)

pub returns-clause-parts : goal.returns-clause-parts
returns-clause-parts g c = count-ends c.args.runs.now c.loop-run.run-iterator c.loop-run.count
    c.args.page c.loop-run.invariant c.in-None.ensures.steps.0
