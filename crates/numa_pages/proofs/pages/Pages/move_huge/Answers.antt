use Rattle.std.proofs.Common.{◌≡◌, Ok, Err, refl, ap, sym, subst, true, is_some}
use Rattle.numa_huge.specs.Huge.{huge_at}
use Rattle.numa_page_state.specs.Huge.{huge_page, told_done}
use Rattle.numa_pages.specs.Changes.{PagesState}
use Rattle.numa_pages.proofs.Gone.{huge-gone}
use Rattle.numa_pages.proofs.pages.Pages.move_huge.Goals as goal

pub returns-in-Err : goal.returns-in-Err
returns-in-Err c =
    rw (← c.self.view_is) (huge-gone c.args.address c.args.node
    (record { core = c.self.inside.core; state = c.self.inside.state; huge = c.self.inside.huge })
    (record {
      core = c.self.inside.core;
      state = c.self.inside.state;
      huge = c.huge_goes.new.huge;
    }) c.space.result.now c.huge_goes.result (Err c.in-Err.why)
    (subst (λ (p : PagesState). is_some (huge_at p.huge.runs (huge_page c.args.address)) ≡ true)
    (sym c.self.view_is) c.requires) c.space.ensures.space refl refl (ap told_done c.in-Err.is)
    c.huge_goes.ensures.goes c.in-Err.ensures.unchanged)

pub returns : goal.returns
returns c =
    rw (← c.self.view_is) (huge-gone c.args.address c.args.node
    (record { core = c.self.inside.core; state = c.self.inside.state; huge = c.self.inside.huge })
    (record {
      core = c.self.inside.core;
      state = c.self.inside.state;
      huge = c.huge_goes.new.huge;
    }) c.space.result.now c.huge_goes.result (Ok tt)
    (subst (λ (p : PagesState). is_some (huge_at p.huge.runs (huge_page c.args.address)) ≡ true)
    (sym c.self.view_is) c.requires) c.space.ensures.space refl refl (ap told_done c.in_default.is)
    c.huge_goes.ensures.goes tt)
