use Rattle.std.proofs.Common.{[], ap, ◌∙◌}
use Rattle.numa_space.specs.History.{page_of}
use Rattle.numa_page_state.specs.Huge.{huge_count}
use Rattle.numa_page_state.proofs.Faulted.{touch-if}
use Rattle.numa_page_state.proofs.huge.huge_populated.Goals as goal

pub returns-clause-touched : goal.returns-clause-touched
returns-clause-touched c memory is =
    touch-if c.args.space.now memory c.args.start c.args.length c.args.task c.args.cpu
    c.args.huge.now c.populated.result c.huge_span-span.result.first c.huge_span-span.result.pages
    is c.huge_span-span.ensures.first
    (c.huge_span-span.ensures.pages
    ∙ ap (huge_count (page_of c.args.start)) c.page_count.ensures.pages) c.populated.ensures.touched

pub returns-clause-keeps : goal.returns-clause-keeps
returns-clause-keeps c = c.populated.ensures.keeps
