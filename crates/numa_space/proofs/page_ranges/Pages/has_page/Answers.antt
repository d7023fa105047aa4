use Rattle.std.proofs.Common.{◌+◌, ap, sym, ◌∙◌, arith}
use Rattle.std.specs.List.{list_any}
use Rattle.numa_ranges.specs.Runs.{end_of, page_at}
use Rattle.numa_space.specs.Edits.{PageRanges, passes, reaches}
use Rattle.numa_space.proofs.Homes.{any_page-within, apart-next, reaches-pages, reaches-one}
use Rattle.numa_space.proofs.Homes.{reaches-next, reaches-past}
use Rattle.numa_space.proofs.page_ranges.Pages.has_page.Goals as goal

pub loop-run-init : goal.loop-run-init
loop-run-init c =
    let runs = c.iter_from-run-items.result in
    let test = c.args.test in
    let first = c.args.first in
    let gives = c.into_iter-run-iterator.ensures.into_iter_gives in
    record {
      any = ap (list_any (reaches test first (first + c.args.pages))) gives
          ∙ (reaches-pages test runs 0 first c.args.pages c.requires.some
          c.iter_from-run-items.ensures.rising
          ∙ any_page-within (λ page. passes test (page_at runs page))
          (λ page. passes test (page_at c.args.self.now.runs page)) first c.args.pages
          (λ page low high. ap (passes test) (c.iter_from-run-items.ensures.pages page low
          ∙ ap (λ (s : PageRanges). page_at s.runs page) c.self.view_is)));
      apart = (0, rw gives c.iter_from-run-items.ensures.rising);
    }

pub loop-run-preserved : goal.loop-run-preserved
loop-run-preserved c =
    let inv = c.loop-run.invariant in
    record {
      any = reaches-next c.args.test c.args.first (c.args.first + c.args.pages)
          c.loop-run.run-iterator c.next.new.self c.in-Some.run' c.in-Some.ensures.steps
          (sym c.if-reaches.ensures) ∙ inv.any;
      apart = (
        end_of c.in-Some.run',
        apart-next inv.apart.0 c.loop-run.run-iterator c.next.new.self c.in-Some.run'
            c.in-Some.ensures.steps inv.apart.1,
      );
    }

pub returns-then-run-end : goal.returns-then-run-end
returns-then-run-end c =
    let inv = c.loop-run.invariant in
    sym (reaches-past c.args.test c.args.first (c.args.first + c.args.pages) inv.apart.0
    c.loop-run.run-iterator c.next.new.self c.in-Some.run' c.in-Some.ensures.steps inv.apart.1
    (omega arith)) ∙ inv.any

pub returns-then-reaches : goal.returns-then-reaches
returns-then-reaches c =
    sym (reaches-one c.args.test c.args.first (c.args.first + c.args.pages) c.loop-run.run-iterator
    c.next.new.self c.in-Some.run' c.in-Some.ensures.steps (sym c.if-reaches.ensures))
    ∙ c.loop-run.invariant.any

pub returns : goal.returns
returns c = ap (list_any (reaches c.args.test c.args.first (c.args.first + c.args.pages)))
    (sym c.in-None.ensures.steps.0) ∙ c.loop-run.invariant.any
