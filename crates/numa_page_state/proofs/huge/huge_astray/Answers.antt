use Rattle.std.proofs.Common.{ap, arith, ◌∙◌}
use Rattle.numa_ranges.specs.Runs.{page_at}
use Rattle.numa_space.specs.History.{page_of}
use Rattle.numa_placed.specs.Astray.{judged_pages}
use Rattle.numa_page_state.proofs.HugeMoved.{astray-same}
use Rattle.numa_page_state.proofs.huge.huge_astray.Goals as goal

pub judged_pages-judged-requires : goal.judged_pages-judged-requires
judged_pages-judged-requires c = omega (arith, c.page_count.ensures.at_most)

pub returns : goal.returns
returns c memory history kept is stands =
    c.has_astray.ensures ∙ astray-same c.args.space.now history kept memory c.args.said.now
    c.args.huge.now c.huge_span-span.result.first c.huge_span-span.result.pages
    c.judged_pages-judged.result is stands
    (c.judged_pages-judged.ensures.judged
    ∙ ap (λ n. judged_pages c.args.space.now.machine.rules (page_at c.args.space.now.ranges)
    (page_of c.args.said.now.start) n) c.page_count.ensures.pages)
    c.huge_span-span.ensures.first c.huge_span-span.ensures.pages
