use Rattle.std.proofs.Common.{sym, subst}
use Rattle.numa_page_state.specs.Sending.{command_of}
use Rattle.numa_pages.specs.Changes.{PagesState}
use Rattle.numa_pages.proofs.Refusing.{Stands, not-accepted}
use Rattle.numa_pages.proofs.pages.Pages.refuse.Goals as goal

pub unreachable-requires : goal.unreachable-requires
unreachable-requires c =
    let pages : PagesState = record {
      core = c.self.inside.core;
      state = c.self.inside.state;
      huge = c.self.inside.huge;
    } in
    not-accepted pages c.command_of.result c.in-Ok.field-0.version c.published.ensures.past
    (subst (Stands pages) (sym c.command_of.ensures)
    (subst (λ (p : PagesState). Stands p (command_of c.args.said)) (sym c.self.view_is)
    c.requires)) (λ world of. (c.in-Ok.ensures.answer world of).0)
