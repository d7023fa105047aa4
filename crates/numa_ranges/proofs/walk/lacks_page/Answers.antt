-- The walk stops at a page that is not mapped, behind the span, or behind the last run.
use Rattle.std.proofs.Common.{sym, ◌∙◌, arith}
use Rattle.numa_ranges.proofs.Walked.{walk-begins, walk-fits, walk-on, walk-lacks, walk-whole}
use Rattle.numa_ranges.proofs.Walked.{walk-ends}
use Rattle.numa_ranges.proofs.walk.lacks_page.Goals as goal

pub loop-run-init : goal.loop-run-init
loop-run-init g c =
    walk-begins c.args.runs.now c.into_iter-run-iterator.result c.args.place c.saturating_sub.result
    c.args.first c.requires.apart c.requires.within c.requires.parts (omega arith)
    (c.into_iter-run-iterator.ensures.into_iter_gives ∙ c.iter_near-run-items.ensures)

pub returns-then-page-end : goal.returns-then-page-end
returns-then-page-end g c =
    sym (walk-whole c.args.runs.now c.loop-run.run-iterator c.args.first c.args.pages
    c.loop-run.page c.loop-run.invariant (omega arith))

pub returns-then-page-run : goal.returns-then-page-run
returns-then-page-run g c =
    sym (walk-lacks c.args.runs.now c.loop-run.run-iterator c.next.new.self c.in-Some.run'
    c.args.first c.args.pages c.loop-run.page c.loop-run.invariant c.in-Some.ensures.steps
    (omega arith) (omega arith))

pub returns : goal.returns
returns g c = walk-ends c.args.runs.now c.loop-run.run-iterator c.args.first c.args.pages
    c.loop-run.page c.loop-run.invariant c.in-None.ensures.steps.0

pub loop-run-preserved : goal.loop-run-preserved
loop-run-preserved g c = walk-on c.args.runs.now c.loop-run.run-iterator c.next.new.self
    c.in-Some.run' c.args.first c.loop-run.page c.max-page.result c.loop-run.invariant
    c.in-Some.ensures.steps (omega arith) (omega arith)

pub overflow_add-end : goal.overflow_add-end
overflow_add-end g c = omega (arith, c.requires.span)

pub overflow_add-run : goal.overflow_add-run
overflow_add-run g c =
    omega (
      arith,
      walk-fits c.args.runs.now c.loop-run.run-iterator c.next.new.self c.in-Some.run'
          c.args.first c.loop-run.page c.loop-run.invariant c.in-Some.ensures.steps,
    )
