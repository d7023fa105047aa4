use Rattle.std.proofs.Common.{◌≡◌, Err, false, refl, sym, subst, is_some}
use Rattle.numa_requests.specs.declared.page_refusal.MoveRefusal.TheVariants.{NoMemory}
use Rattle.numa_huge.specs.Huge.{huge_at}
use Rattle.numa_page_state.specs.Huge.{huge_page}
use Rattle.numa_page_state.specs.Outcomes.{move_outcome}
use Rattle.numa_pages.specs.Changes.{PagesState, ground_of, huge_in}
use Rattle.numa_pages.specs.Sizes.{beside, go_outcome}
use Rattle.numa_pages.proofs.Changing.{outcome-so}
use Rattle.numa_pages.proofs.Commands.{changed-small}
use Rattle.numa_pages.proofs.pages.Pages.move_small.Goals as goal

pub returns : goal.returns
returns c =
    let before : PagesState = record {
      core = c.self.inside.core;
      state = c.self.inside.state;
      huge = c.self.inside.huge;
    } in
    let after : PagesState = record {
      core = c.self.inside.core;
      state = c.move_page.new.self;
      huge = c.self.inside.huge;
    } in
    let none : is_some ((huge_in before).spots (huge_page c.args.address)) ≡ false =
    subst (λ (p : PagesState). is_some (huge_at p.huge.runs (huge_page c.args.address)) ≡ false)
    (sym c.self.view_is) c.requires in
    rw (← c.self.view_is) (outcome-so (Err NoMemory) c.move_page.result
    (λ lack huge at. beside huge (move_outcome lack (ground_of before) c.args.address c.args.node
    at)) (λ lack huge at. go_outcome lack (ground_of before) c.args.address c.args.node huge at)
    before after (λ lack at. rw none refl)
    (changed-small (Err NoMemory) c.move_page.result (λ lack ground at. move_outcome lack ground
    c.args.address c.args.node at) before after c.space.result.now c.new-none.result
    c.space.ensures.space c.new-none.ensures refl refl c.move_page.ensures.does
    c.move_page.ensures.unchanged))
