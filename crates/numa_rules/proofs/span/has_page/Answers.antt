use Rattle.std.proofs.Common.{◌+◌, ap, sym, ◌∙◌}
use Rattle.std.specs.List.{list_any}
use Rattle.numa_rules.specs.Pages.{reaches}
use Rattle.numa_rules.proofs.Spans.{reaches-pages, reaches-one, reaches-next}
use Rattle.numa_rules.proofs.span.has_page.Goals as goal

pub loop-run-init : goal.loop-run-init
loop-run-init c =
    ap (list_any (reaches c.args.test c.args.first (c.args.first + c.args.pages)))
    (c.into_iter-run-iterator.ensures.into_iter_gives ∙ c.range_iter-run-items.ensures.runs)

pub loop-run-preserved : goal.loop-run-preserved
loop-run-preserved c =
    reaches-next c.args.test c.args.first (c.args.first + c.args.pages)
    c.loop-run.run-iterator c.next.new.self c.in-Some.run' c.in-Some.ensures.steps
    (sym c.if-reaches.ensures) ∙ c.loop-run.invariant

pub returns-then-reaches : goal.returns-then-reaches
returns-then-reaches c =
    sym (reaches-one c.args.test c.args.first (c.args.first + c.args.pages)
    c.loop-run.run-iterator c.next.new.self c.in-Some.run' c.in-Some.ensures.steps
    (sym c.if-reaches.ensures)) ∙ (c.loop-run.invariant
    ∙ reaches-pages c.args.test c.args.space.now.ranges 0 c.args.first c.args.pages
    c.requires.some c.range_iter-run-items.ensures.rising)

pub returns : goal.returns
returns c =
    ap (list_any (reaches c.args.test c.args.first (c.args.first + c.args.pages)))
    (sym c.in-None.ensures.steps.0) ∙ (c.loop-run.invariant
    ∙ reaches-pages c.args.test c.args.space.now.ranges 0 c.args.first c.args.pages
    c.requires.some c.range_iter-run-items.ensures.rising)
