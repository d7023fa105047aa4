use Rattle.std.proofs.Common.{◌≡◌, Err, refl, subst, sym, ap, ◌∙◌, false, true}
use Rattle.std.specs.Prelude.{OnErr}
use Rattle.numa_requests.specs.declared.page_refusal.HugeRefusal.TheVariants as because
use Rattle.numa_requests.specs.declared.page_refusal.PlacedRefusal.TheVariants as cause
use Rattle.numa_page_state.specs.Lying.{ground_in}
use Rattle.numa_page_state.specs.Outcomes.{at_outcome}
use Rattle.numa_pages.specs.Changes.{PagesState, ground_of, huge_in}
use Rattle.numa_pages.specs.Sizes.{beside, has_huge_among, of_pages, place_outcome}
use Rattle.numa_pages.specs.declared.refusal.ChangeRefusal.TheVariants.{OfHuge, OfPages}
use Rattle.numa_pages.proofs.Changing.{err-room, err-told, outcome-so, refused-so, told-so}
use Rattle.numa_pages.proofs.Commands.{changed-small}
use Rattle.numa_pages.proofs.pages.Pages.place.Goals as goal

pub returns-then-has_huge : goal.returns-then-has_huge
returns-then-has_huge c =
    let before : PagesState = record {
      core = c.self.inside.core;
      state = c.self.inside.state;
      huge = c.self.inside.huge;
    } in
    let some : has_huge_among (huge_in before) c.args.start c.args.length ≡ true =
    subst (λ (p : PagesState). has_huge_among (huge_in p) c.args.start c.args.length ≡ true)
    (sym c.self.view_is) (sym c.has_huge.ensures ∙ c.if-has_huge.true) in
    rw (← c.self.view_is) (record {
      does = refused-so (Err (OfPages cause.NoMemory)) (OfHuge because.NotSupported)
          (λ lack huge at. place_outcome lack (ground_of before) c.args.start c.args.length
          c.args.node huge at) before (λ at. rw some refl);
      room = λ lack. absurd (cc);
    })

pub returns : goal.returns
returns c =
    let before : PagesState = record {
      core = c.self.inside.core;
      state = c.self.inside.state;
      huge = c.self.inside.huge;
    } in
    let after : PagesState = record {
      core = c.self.inside.core;
      state = c.at.new.self;
      huge = c.self.inside.huge;
    } in
    let none : has_huge_among (huge_in before) c.args.start c.args.length ≡ false =
    subst (λ (p : PagesState). has_huge_among (huge_in p) c.args.start c.args.length ≡ false)
    (sym c.self.view_is) (sym c.has_huge.ensures ∙ c.if-has_huge.false) in
    rw (← c.self.view_is, c.state_told.ensures) (record {
      does = outcome-so (Err (OfPages cause.NoMemory)) _ (λ lack huge at. beside huge
          (of_pages (at_outcome lack (ground_of before) c.args.start c.args.length c.args.node at)))
          (λ lack huge at. place_outcome lack (ground_of before) c.args.start c.args.length
          c.args.node huge at) before after (λ lack at. rw none refl)
          (changed-small (Err (OfPages cause.NoMemory)) _ (λ lack ground at. of_pages
          (at_outcome lack ground c.args.start c.args.length c.args.node at)) before after
          c.space.result.now c.new-none.result c.space.ensures.space c.new-none.ensures refl refl
          (told-so before.state after.state c.at.result (λ lack at. at_outcome lack
          (ground_in c.space.result.now c.new-none.result) c.args.start c.args.length c.args.node
          at) c.at.ensures.does)
          (err-told c.at.result (after.state ≡ before.state) c.at.ensures.unchanged));
      room = err-room c.at.result c.args.length c.at.ensures.room;
    })
