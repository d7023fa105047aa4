-- The walk stops at a page that is not mapped, at a run that starts behind the span, or behind the
-- last run.
use Rattle.std.proofs.Common.{◌+◌, ◌-◌, length, None, ap, sym, ◌∙◌, arith}
use Rattle.numa_ranges.proofs.Walked.{walk-begins, walk-fits, walk-on, walk-lacks, walk-whole}
use Rattle.numa_ranges.proofs.Walked.{count-before, count-on, count-stops, count-ends, step-short}
use Rattle.numa_ranges.proofs.Walked.{ends-next, found-none, found-whole, found-window, lacking}
use Rattle.numa_ranges.specs.Runs.{page_at}
use Rattle.numa_ranges.proofs.walk.whole_window.Goals as goal

pub overflow_add-end : goal.overflow_add-end
overflow_add-end g c = omega (arith, c.requires.span)

pub loop-run-init : goal.loop-run-init
loop-run-init g c =
    let left = c.into_iter-run-iterator.ensures.into_iter_gives ∙ c.iter_near-run-items.ensures in
    record {
      walked = walk-begins c.args.runs.now c.into_iter-run-iterator.result c.args.place
          c.saturating_sub-count.result c.args.first c.requires.apart c.requires.within
          c.requires.parts (omega arith) left;
      counted = count-before c.args.runs.now c.into_iter-run-iterator.result c.args.place
          c.saturating_sub-count.result c.args.first (c.args.first + c.args.pages)
          (omega arith) c.requires.within c.requires.parts (omega arith) left;
      last = λ some. absurd (omega (arith, some));
    }

pub overflow_add-last_end : goal.overflow_add-last_end
overflow_add-last_end g c =
    omega (
      arith,
      walk-fits c.args.runs.now c.loop-run.run-iterator c.next.new.self c.in-Some.run'
          c.args.first c.loop-run.page c.loop-run.invariant.walked c.in-Some.ensures.steps,
    )

pub overflow_add-count : goal.overflow_add-count
overflow_add-count g c =
    let short = step-short c.args.runs.now c.loop-run.run-iterator c.next.new.self c.loop-run.count
    c.in-Some.run' c.loop-run.invariant.counted.ahead c.in-Some.ensures.steps in
    omega (arith, short, c.len-len.ensures.len, c.len-len.ensures.bound)

pub loop-run-preserved : goal.loop-run-preserved
loop-run-preserved g c = record {
  walked = walk-on c.args.runs.now c.loop-run.run-iterator c.next.new.self c.in-Some.run'
      c.args.first c.loop-run.page c.max-page.result c.loop-run.invariant.walked
      c.in-Some.ensures.steps (omega arith) (omega arith);
  counted = count-on c.args.runs.now c.loop-run.run-iterator c.next.new.self c.in-Some.run'
      c.loop-run.count (c.args.first + c.args.pages) c.loop-run.invariant.counted
      c.in-Some.ensures.steps (omega arith);
  last = ends-next c.args.runs.now c.loop-run.run-iterator c.next.new.self c.in-Some.run'
      c.loop-run.count (c.args.first + c.args.pages) _ c.loop-run.invariant.counted
      c.in-Some.ensures.steps (omega arith);
}

pub window_if_whole-requires-clause-small : goal.window_if_whole-requires-clause-small
window_if_whole-requires-clause-small g c = c.len-len.ensures.bound

pub window_if_whole-requires-clause-within : goal.window_if_whole-requires-clause-within
window_if_whole-requires-clause-within g c =
    omega (arith, c.loop-run.invariant.counted.within, c.len-len.ensures.len)

pub window_if_whole-requires-2-clause-small : goal.window_if_whole-requires-2-clause-small
window_if_whole-requires-2-clause-small g c = c.len-len.ensures.bound

pub window_if_whole-requires-2-clause-within : goal.window_if_whole-requires-2-clause-within
window_if_whole-requires-2-clause-within g c =
    omega (arith, c.loop-run.invariant.counted.within, c.len-len.ensures.len)

pub returns-then-end-run-clause-none : goal.returns-then-end-run-clause-none
returns-then-end-run-clause-none g c =
    found-none c.first_place-from.result c.len-len.result c.loop-run.count c.loop-run.last_end
    c.loop-run.page (c.args.first + c.args.pages) c.window_if_whole.result (record {
      none = c.window_if_whole.ensures.none;
      behind = c.window_if_whole.ensures.ends_behind;
      before = c.window_if_whole.ensures.ends_before;
    }) (λ low. walk-lacks c.args.runs.now c.loop-run.run-iterator c.next.new.self c.in-Some.run'
    c.args.first c.args.pages c.loop-run.page c.loop-run.invariant.walked c.in-Some.ensures.steps
    low (omega (arith, low)))

pub returns-then-end-run-clause-whole : goal.returns-then-end-run-clause-whole
returns-then-end-run-clause-whole g c =
    found-whole c.first_place-from.result c.len-len.result c.loop-run.count c.loop-run.last_end
    c.loop-run.page (c.args.first + c.args.pages) c.window_if_whole.result (record {
      none = c.window_if_whole.ensures.none;
      behind = c.window_if_whole.ensures.ends_behind;
      before = c.window_if_whole.ensures.ends_before;
    }) (λ past. walk-whole c.args.runs.now c.loop-run.run-iterator c.args.first c.args.pages
    c.loop-run.page c.loop-run.invariant.walked past)

pub returns-then-end-run-clause-window : goal.returns-then-end-run-clause-window
returns-then-end-run-clause-window g c =
    found-window c.args.runs.now c.args.place c.args.first (c.args.first + c.args.pages)
    c.first_place-from.result c.len-len.result c.loop-run.count c.loop-run.last_end c.loop-run.page
    c.window_if_whole.result (record {
      none = c.window_if_whole.ensures.none;
      behind = c.window_if_whole.ensures.ends_behind;
      before = c.window_if_whole.ensures.ends_before;
    }) c.len-len.ensures.len c.first_place-from.ensures c.loop-run.invariant.counted.within
    (count-stops c.args.runs.now c.loop-run.run-iterator c.next.new.self c.in-Some.run'
    c.loop-run.count (c.args.first + c.args.pages) c.requires.apart c.loop-run.invariant.counted
    c.in-Some.ensures.steps (omega arith)) c.loop-run.invariant.last

pub returns-then-page-run-clause-none : goal.returns-then-page-run-clause-none
returns-then-page-run-clause-none g c =
    walk-lacks c.args.runs.now c.loop-run.run-iterator c.next.new.self c.in-Some.run'
    c.args.first c.args.pages c.loop-run.page c.loop-run.invariant.walked c.in-Some.ensures.steps
    (omega arith) (omega arith)

pub returns-clause-none : goal.returns-clause-none
returns-clause-none g c =
    found-none c.first_place-from.result c.len-len.result c.loop-run.count c.loop-run.last_end
    c.loop-run.page (c.args.first + c.args.pages) c.window_if_whole-2.result (record {
      none = c.window_if_whole-2.ensures.none;
      behind = c.window_if_whole-2.ensures.ends_behind;
      before = c.window_if_whole-2.ensures.ends_before;
    }) (λ low. lacking c.args.runs.now c.loop-run.run-iterator c.args.first c.args.pages
    c.loop-run.page c.loop-run.invariant.walked low
    (ap (λ l. page_at l c.loop-run.page) c.in-None.ensures.steps.0))

pub returns-clause-whole : goal.returns-clause-whole
returns-clause-whole g c =
    found-whole c.first_place-from.result c.len-len.result c.loop-run.count c.loop-run.last_end
    c.loop-run.page (c.args.first + c.args.pages) c.window_if_whole-2.result (record {
      none = c.window_if_whole-2.ensures.none;
      behind = c.window_if_whole-2.ensures.ends_behind;
      before = c.window_if_whole-2.ensures.ends_before;
    }) (λ past. walk-whole c.args.runs.now c.loop-run.run-iterator c.args.first c.args.pages
    c.loop-run.page c.loop-run.invariant.walked past)

pub returns-clause-window : goal.returns-clause-window
returns-clause-window g c =
    found-window c.args.runs.now c.args.place c.args.first (c.args.first + c.args.pages)
    c.first_place-from.result c.len-len.result c.loop-run.count c.loop-run.last_end c.loop-run.page
    c.window_if_whole-2.result (record {
      none = c.window_if_whole-2.ensures.none;
      behind = c.window_if_whole-2.ensures.ends_behind;
      before = c.window_if_whole-2.ensures.ends_before;
    }) c.len-len.ensures.len c.first_place-from.ensures c.loop-run.invariant.counted.within
    (count-ends c.args.runs.now c.loop-run.run-iterator c.loop-run.count
    (c.args.first + c.args.pages) c.loop-run.invariant.counted c.in-None.ensures.steps.0)
    c.loop-run.invariant.last
