use Rattle.std.proofs.Common.{◌≡◌, ◌∙◌, Err, Ok, refl, subst, sym, false}
use Rattle.numa_page_state.specs.Lying.{Lying}
use Rattle.numa_page_state.specs.Touching.{populate_outcome}
use Rattle.numa_pages.specs.Changes.{PagesState, Populates, ground_of, huge_in, lacking}
use Rattle.numa_pages.specs.Sizes.{beside, has_huge_among, touch_outcome}
use Rattle.numa_pages.proofs.Changing.{outcome-so}
use Rattle.numa_pages.proofs.Commands.{changed-small}
use Rattle.numa_pages.proofs.Touched.{touched-small}
use Rattle.numa_pages.proofs.pages.Pages.populate.Goals as goal

pub returns-in-Ok : goal.returns-in-Ok
returns-in-Ok c =
    let before : PagesState = record {
      core = c.self.inside.core;
      state = c.self.inside.state;
      huge = c.self.inside.huge;
    } in
    let after : PagesState = record {
      core = c.self.inside.core;
      state = c.populate.new.self;
      huge = c.self.inside.huge;
    } in
    let none : has_huge_among (huge_in before) c.args.start c.args.length ≡ false =
    subst (λ (p : PagesState). has_huge_among (huge_in p) c.args.start c.args.length ≡ false)
    (sym c.self.view_is) (sym c.has_huge.ensures ∙ c.if-has_huge.false) in
    rw (← c.self.view_is) (touched-small c.args.start c.args.length c.args.task c.args.cpu before
    after none c.arrived.result.now
    (outcome-so lacking (Ok tt) (λ lack huge at. beside huge (populate_outcome lack
    (ground_of before) c.args.start c.args.length c.args.task c.args.cpu at))
    (λ lack huge at. touch_outcome lack (ground_of before) c.args.start c.args.length c.args.task
    c.args.cpu huge at) before after (λ lack at. rw none refl)
    (changed-small lacking (Ok tt) (λ lack ground at. populate_outcome lack ground c.args.start
    c.args.length c.args.task c.args.cpu at) before after c.space-space.result.now
    c.new-none.result
    c.space-space.ensures.space c.new-none.ensures refl refl c.in-Ok.ensures.does tt))
    c.arrived.ensures)

pub returns : goal.returns
returns c =
    let before : PagesState = record {
      core = c.self.inside.core;
      state = c.self.inside.state;
      huge = c.self.inside.huge;
    } in
    let after : PagesState = record {
      core = c.self.inside.core;
      state = c.populate.new.self;
      huge = c.self.inside.huge;
    } in
    let none : has_huge_among (huge_in before) c.args.start c.args.length ≡ false =
    subst (λ (p : PagesState). has_huge_among (huge_in p) c.args.start c.args.length ≡ false)
    (sym c.self.view_is) (sym c.has_huge.ensures ∙ c.if-has_huge.false) in
    rw (← c.self.view_is) (record {
      does = outcome-so lacking (Err c.in-Err.why) (λ lack huge at. beside huge (populate_outcome
          lack (ground_of before) c.args.start c.args.length c.args.task c.args.cpu at))
          (λ lack huge at. touch_outcome lack (ground_of before) c.args.start c.args.length
          c.args.task c.args.cpu huge at) before after (λ lack at. rw none refl)
          (changed-small lacking (Err c.in-Err.why) (λ lack ground at. populate_outcome lack ground
          c.args.start c.args.length c.args.task c.args.cpu at) before after
          c.space-space.result.now c.new-none.result c.space-space.ensures.space
          c.new-none.ensures refl refl c.in-Err.ensures.does c.in-Err.ensures.unchanged);
      told = tt;
    })

pub populate_both-requires : goal.populate_both-requires
populate_both-requires c = sym c.has_huge.ensures ∙ c.if-has_huge.true
