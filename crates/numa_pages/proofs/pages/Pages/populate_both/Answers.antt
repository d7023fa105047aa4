use Rattle.std.proofs.Common.{◌≡◌, ℕ, ◌<◌, ◌≤◌, Ok, Err, true, refl, sym, subst, arith}
use Rattle.std.specs.Prelude.{slice_index}
use Rattle.numa_huge.specs.Huge.{HugePlaced}
use Rattle.numa_huge.specs.Tallies.{IsTouch}
use Rattle.numa_page_state.specs.Huge.{touch_walk}
use Rattle.numa_pages.specs.Changes.{PagesState, ground_of, huge_in}
use Rattle.numa_pages.specs.Sizes.{alone, has_huge_among}
use Rattle.numa_pages.proofs.Touched.{came-few, own-few, small-so, touch-so, touched-both}
use Rattle.numa_pages.proofs.Touched.{touched-refused, touched-starved}
use Rattle.numa_pages.proofs.pages.Pages.populate_both.Goals as goal

pub returns-in_default : goal.returns-in_default
returns-in_default c =
    rw (← c.self.view_is) (touched-starved c.args.start c.args.length c.args.toucher.task c.args.toucher.cpu
    (record { core = c.self.inside.core; state = c.self.inside.state; huge = c.self.inside.huge })
    (subst (λ (p : PagesState). has_huge_among (huge_in p) c.args.start c.args.length ≡ true)
    (sym c.self.view_is) c.requires))

pub arrived_in-requires-clause-placed : goal.arrived_in-requires-clause-placed
arrived_in-requires-clause-placed c =
    let before : PagesState = record {
      core = c.self.inside.core;
      state = c.self.inside.state;
      huge = c.self.inside.huge;
    } in
    let touch = touch-so c.args.start c.args.length c.args.toucher.task c.args.toucher.cpu before
    c.space-space.result.now c.new-none.result c.space-space.ensures.space c.new-none.ensures
    c.in-Ok.touched.0 c.in-Ok.touched.1 (c.in-Ok.ensures.touched (alone (huge_in before)) refl) in
    let does = small-so c.args.start c.args.length c.args.toucher.task c.args.toucher.cpu before
    c.space-space.result.now c.new-none.result c.space-space.ensures.space c.new-none.ensures
    c.populate_beside.new.self (Ok tt)
    (c.in-Ok-populate_beside.ensures.does (alone (huge_in before)) refl) in
    let few = own-few c.args.start c.args.length c.args.toucher.task c.args.toucher.cpu before
    c.populate_beside.new.self c.arrived.result.now does c.arrived.ensures in
    omega (arith, few.0)

pub arrived_in-requires-clause-exhausted : goal.arrived_in-requires-clause-exhausted
arrived_in-requires-clause-exhausted c =
    let before : PagesState = record {
      core = c.self.inside.core;
      state = c.self.inside.state;
      huge = c.self.inside.huge;
    } in
    let touch = touch-so c.args.start c.args.length c.args.toucher.task c.args.toucher.cpu before
    c.space-space.result.now c.new-none.result c.space-space.ensures.space c.new-none.ensures
    c.in-Ok.touched.0 c.in-Ok.touched.1 (c.in-Ok.ensures.touched (alone (huge_in before)) refl) in
    let does = small-so c.args.start c.args.length c.args.toucher.task c.args.toucher.cpu before
    c.space-space.result.now c.new-none.result c.space-space.ensures.space c.new-none.ensures
    c.populate_beside.new.self (Ok tt)
    (c.in-Ok-populate_beside.ensures.does (alone (huge_in before)) refl) in
    let few = own-few c.args.start c.args.length c.args.toucher.task c.args.toucher.cpu before
    c.populate_beside.new.self c.arrived.result.now does c.arrived.ensures in
    omega (arith, few.1)

pub arrived_in-requires-clause-on : goal.arrived_in-requires-clause-on
arrived_in-requires-clause-on c node near =
    let before : PagesState = record {
      core = c.self.inside.core;
      state = c.self.inside.state;
      huge = c.self.inside.huge;
    } in
    let touch = touch-so c.args.start c.args.length c.args.toucher.task c.args.toucher.cpu before
    c.space-space.result.now c.new-none.result c.space-space.ensures.space c.new-none.ensures
    c.in-Ok.touched.0 c.in-Ok.touched.1 (c.in-Ok.ensures.touched (alone (huge_in before)) refl) in
    let does = small-so c.args.start c.args.length c.args.toucher.task c.args.toucher.cpu before
    c.space-space.result.now c.new-none.result c.space-space.ensures.space c.new-none.ensures
    c.populate_beside.new.self (Ok tt)
    (c.in-Ok-populate_beside.ensures.does (alone (huge_in before)) refl) in
    let few = own-few c.args.start c.args.length c.args.toucher.task c.args.toucher.cpu before
    c.populate_beside.new.self c.arrived.result.now does c.arrived.ensures in
    omega (arith, few.2 node near)

pub arrived_in-requires-clause-huge_placed : goal.arrived_in-requires-clause-huge_placed
arrived_in-requires-clause-huge_placed c =
    let before : PagesState = record {
      core = c.self.inside.core;
      state = c.self.inside.state;
      huge = c.self.inside.huge;
    } in
    let touch = touch-so c.args.start c.args.length c.args.toucher.task c.args.toucher.cpu before
    c.space-space.result.now c.new-none.result c.space-space.ensures.space c.new-none.ensures
    c.in-Ok.touched.0 c.in-Ok.touched.1 (c.in-Ok.ensures.touched (alone (huge_in before)) refl) in
    let does = small-so c.args.start c.args.length c.args.toucher.task c.args.toucher.cpu before
    c.space-space.result.now c.new-none.result c.space-space.ensures.space c.new-none.ensures
    c.populate_beside.new.self (Ok tt)
    (c.in-Ok-populate_beside.ensures.does (alone (huge_in before)) refl) in
    let few = came-few c.args.start c.args.length c.args.toucher.task c.args.toucher.cpu before
    c.in-Ok.touched.0 c.in-Ok.touched.1 touch in
    omega (arith, few.0)

pub arrived_in-requires-clause-huge_exhausted : goal.arrived_in-requires-clause-huge_exhausted
arrived_in-requires-clause-huge_exhausted c =
    let before : PagesState = record {
      core = c.self.inside.core;
      state = c.self.inside.state;
      huge = c.self.inside.huge;
    } in
    let touch = touch-so c.args.start c.args.length c.args.toucher.task c.args.toucher.cpu before
    c.space-space.result.now c.new-none.result c.space-space.ensures.space c.new-none.ensures
    c.in-Ok.touched.0 c.in-Ok.touched.1 (c.in-Ok.ensures.touched (alone (huge_in before)) refl) in
    let does = small-so c.args.start c.args.length c.args.toucher.task c.args.toucher.cpu before
    c.space-space.result.now c.new-none.result c.space-space.ensures.space c.new-none.ensures
    c.populate_beside.new.self (Ok tt)
    (c.in-Ok-populate_beside.ensures.does (alone (huge_in before)) refl) in
    let few = came-few c.args.start c.args.length c.args.toucher.task c.args.toucher.cpu before
    c.in-Ok.touched.0 c.in-Ok.touched.1 touch in
    omega (arith, few.1)

pub arrived_in-requires-clause-huge_on : goal.arrived_in-requires-clause-huge_on
arrived_in-requires-clause-huge_on c node near =
    let before : PagesState = record {
      core = c.self.inside.core;
      state = c.self.inside.state;
      huge = c.self.inside.huge;
    } in
    let touch = touch-so c.args.start c.args.length c.args.toucher.task c.args.toucher.cpu before
    c.space-space.result.now c.new-none.result c.space-space.ensures.space c.new-none.ensures
    c.in-Ok.touched.0 c.in-Ok.touched.1 (c.in-Ok.ensures.touched (alone (huge_in before)) refl) in
    let does = small-so c.args.start c.args.length c.args.toucher.task c.args.toucher.cpu before
    c.space-space.result.now c.new-none.result c.space-space.ensures.space c.new-none.ensures
    c.populate_beside.new.self (Ok tt)
    (c.in-Ok-populate_beside.ensures.does (alone (huge_in before)) refl) in
    let few = came-few c.args.start c.args.length c.args.toucher.task c.args.toucher.cpu before
    c.in-Ok.touched.0 c.in-Ok.touched.1 touch in
    omega (arith, few.2 node near)

pub returns-in-Ok-populate_beside : goal.returns-in-Ok-populate_beside
returns-in-Ok-populate_beside c =
    let before : PagesState = record {
      core = c.self.inside.core;
      state = c.self.inside.state;
      huge = c.self.inside.huge;
    } in
    let touch = touch-so c.args.start c.args.length c.args.toucher.task c.args.toucher.cpu before
    c.space-space.result.now c.new-none.result c.space-space.ensures.space c.new-none.ensures
    c.in-Ok.touched.0 c.in-Ok.touched.1 (c.in-Ok.ensures.touched (alone (huge_in before)) refl) in
    let does = small-so c.args.start c.args.length c.args.toucher.task c.args.toucher.cpu before
    c.space-space.result.now c.new-none.result c.space-space.ensures.space c.new-none.ensures
    c.populate_beside.new.self (Ok tt)
    (c.in-Ok-populate_beside.ensures.does (alone (huge_in before)) refl) in
    rw (← c.self.view_is) (touched-both c.args.start c.args.length c.args.toucher.task c.args.toucher.cpu before
    (subst (λ (p : PagesState). has_huge_among (huge_in p) c.args.start c.args.length ≡ true)
    (sym c.self.view_is) c.requires)
    (record {
      core = c.self.inside.core;
      state = c.populate_beside.new.self;
      huge = c.replace.new.dest;
    }) c.arrived.result.now c.in-Ok.touched.1 c.arrived_in.result refl does
    (subst (λ (h : HugePlaced). IsTouch (touch_walk (ground_of before) c.args.start c.args.length
    c.args.toucher.task c.args.toucher.cpu (alone (huge_in before))) h c.in-Ok.touched.1)
    (sym c.replace.ensures.after) touch) c.arrived.ensures c.arrived_in.ensures.placed
    c.arrived_in.ensures.exhausted c.arrived_in.ensures.on)

pub returns : goal.returns
returns c =
    let before : PagesState = record {
      core = c.self.inside.core;
      state = c.self.inside.state;
      huge = c.self.inside.huge;
    } in
    let touch = touch-so c.args.start c.args.length c.args.toucher.task c.args.toucher.cpu before
    c.space-space.result.now c.new-none.result c.space-space.ensures.space c.new-none.ensures
    c.in-Ok.touched.0 c.in-Ok.touched.1 (c.in-Ok.ensures.touched (alone (huge_in before)) refl) in
    let does = small-so c.args.start c.args.length c.args.toucher.task c.args.toucher.cpu before
    c.space-space.result.now c.new-none.result c.space-space.ensures.space c.new-none.ensures
    c.populate_beside.new.self (Err c.in-Err.why)
    (c.in-Err.ensures.does (alone (huge_in before)) refl) in
    rw (← c.self.view_is) (touched-refused c.args.start c.args.length c.args.toucher.task c.args.toucher.cpu before
    (subst (λ (p : PagesState). has_huge_among (huge_in p) c.args.start c.args.length ≡ true)
    (sym c.self.view_is) c.requires)
    (record {
      core = c.self.inside.core;
      state = c.populate_beside.new.self;
      huge = c.self.inside.huge;
    }) c.in-Err.why refl c.in-Err.ensures.unchanged refl does)
