use Rattle.numa_pages.specs.Changes.{PagesState}
use Rattle.numa_pages.proofs.Commands.{huge-kept, not-unmapped}
use Rattle.numa_pages.proofs.pages.Pages.unmap.Goals as goal

pub returns-in-Err : goal.returns-in-Err
returns-in-Err c =
    rw (← c.self.view_is) (huge-kept
    (record { core = c.self.inside.core; state = c.self.inside.state; huge = c.self.inside.huge })
    c.args.start c.args.length c.in-Err.cause
    c.in-Err.ensures)

pub returns-in-Err-without_span : goal.returns-in-Err-without_span
returns-in-Err-without_span c =
    rw (← c.self.view_is) (not-unmapped
    (record { core = c.self.inside.core; state = c.self.inside.state; huge = c.self.inside.huge })
    c.args.start c.args.length c.in-Ok.huge
    c.in-Err-without_span.cause c.in-Ok.ensures c.in-Err-without_span.ensures)
