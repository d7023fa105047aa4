use Rattle.std.proofs.Common.{ap, ◌∙◌}
use Rattle.numa_space.specs.History.{page_of}
use Rattle.numa_page_state.specs.Huge.{huge_count}
use Rattle.numa_page_state.proofs.HugeMoved.{walk-if}
use Rattle.numa_page_state.proofs.huge.huge_sent.Goals as goal

pub returns-clause-sent : goal.returns-clause-sent
returns-clause-sent c memory is =
    walk-if c.args.space.now c.args.said.now c.args.toucher memory c.args.huge.now c.sent.result
    c.mask-list.result c.huge_span-span.result.first c.huge_span-span.result.pages is
    c.mask-list.ensures c.huge_span-span.ensures.first
    (c.huge_span-span.ensures.pages
    ∙ ap (huge_count (page_of c.args.said.now.start)) c.page_count.ensures.pages) c.sent.ensures.sent

pub returns-clause-keeps : goal.returns-clause-keeps
returns-clause-keeps c = c.sent.ensures.keeps
