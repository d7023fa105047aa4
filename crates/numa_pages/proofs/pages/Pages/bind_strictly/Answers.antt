use Rattle.std.proofs.Common.{sym, subst}
use Rattle.numa_pages.specs.Changes.{PagesState}
use Rattle.numa_pages.proofs.Needing.{Strays, not-judged}
use Rattle.numa_pages.proofs.pages.Pages.bind_strictly.Goals as goal

pub returns-in_default : goal.returns-in_default
returns-in_default c =
    rw (← c.self.view_is) (not-judged
    (record { core = c.self.inside.core; state = c.self.inside.state; huge = c.self.inside.huge })
    c.args.start c.args.length
    c.args.spec c.published.ensures.past
    (subst (Strays c.args.start c.args.length c.args.spec) (sym c.self.view_is)
    c.in_default.ensures.astray))
