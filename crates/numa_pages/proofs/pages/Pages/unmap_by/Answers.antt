use Rattle.std.proofs.Common.{Ok, Some, sym, subst}
use Rattle.numa_page_state.specs.Standing.{Forgets}
use Rattle.numa_pages.specs.Changes.{PagesState, huge_in}
use Rattle.numa_pages.specs.Sizes.{LeavesHuge}
use Rattle.numa_pages.proofs.Commands.{unmapped}
use Rattle.numa_pages.proofs.pages.Pages.unmap_by.Goals as goal

pub returns-in-Ok : goal.returns-in-Ok
returns-in-Ok c =
    rw (← c.self.view_is) (unmapped
    (record { core = c.self.inside.core; state = c.self.inside.state; huge = c.self.inside.huge })
    (record {
      core = c.carried_out.new.core;
      state = c.settle_small.new.state;
      huge = c.settle_huge.new.huge;
    }) c.args.start c.args.length c.args.small c.args.huge
    (subst (λ (p : PagesState). Forgets (Some p.state) c.args.start c.args.length
    (Ok c.args.small)) (sym c.self.view_is) c.requires.small)
    (subst (λ (p : PagesState). LeavesHuge (huge_in p) c.args.start c.args.length
    (Ok c.args.huge)) (sym c.self.view_is) c.requires.huge) c.in-Ok.version
    c.settle_small.ensures.none c.settle_small.ensures.some c.settle_huge.ensures.none
    c.settle_huge.ensures.some c.in-Ok.ensures.answers c.in-Ok.ensures.setup)
