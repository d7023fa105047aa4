use Rattle.std.proofs.Common.{sym, ◌∙◌}
use Rattle.numa_rules.proofs.Ranges.{run-here, run-among, run-small}
use Rattle.numa_rules.proofs.place.range_of.Goals as goal

pub returns-then-has_page-clause-range : goal.returns-then-has_page-clause-range
returns-then-has_page-clause-range c =
    let runs = c.args.space.now.ranges in
    let run = c.in-Some.range in
    let here =
    run-here c.loop-range.range-iterator c.next.new.self run c.args.page c.in-Some.ensures.steps
    (sym c.has_page.ensures ∙ c.if-has_page.true) in
    (c.range_iter-range-items.ensures.ranges run).0
    (run-among runs c.args.page run (sym c.loop-range.invariant ∙ here))

pub returns-then-has_page-clause-small : goal.returns-then-has_page-clause-small
returns-then-has_page-clause-small c =
    let runs = c.args.space.now.ranges in
    let run = c.in-Some.range in
    let here =
    run-here c.loop-range.range-iterator c.next.new.self run c.args.page c.in-Some.ensures.steps
    (sym c.has_page.ensures ∙ c.if-has_page.true) in
    run-small 0 runs c.args.page run c.range_iter-range-items.ensures.rising
    (sym c.loop-range.invariant ∙ here)
