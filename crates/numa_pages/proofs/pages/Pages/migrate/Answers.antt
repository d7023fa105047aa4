use Rattle.std.proofs.Common.{◌≡◌, ℕ, ◌<◌, ◌≤◌, Ok, Err, refl, subst, sym, ap, ◌∙◌, arith, []}
use Rattle.std.specs.Prelude.{Result, slice_index}
use Rattle.numa_mask.specs.NodeSet.{both}
use Rattle.numa_placed.specs.Refusals.{migrate_cause}
use Rattle.numa_maps.specs.Residents.{Kept}
use Rattle.numa_requests.specs.declared.page_refusal.PlacedRefusal.{PlacedRefusal}
use Rattle.numa_space.specs.Standing.{SpaceState}
use Rattle.numa_huge.specs.Huge.{HugeLying, huge_at, places_of}
use Rattle.numa_huge.specs.Moves.{following, leave_from, told_following}
use Rattle.numa_huge.specs.Tallies.{HasTold}
use Rattle.numa_huge.specs.declared.last.HugeLast.TheVariants.{Nodes}
use Rattle.numa_page_state.specs.Lying.{ground_in}
use Rattle.numa_page_state.specs.Outcomes.{migrate_outcome}
use Rattle.numa_page_state.specs.Standing.{DoesAs}
use Rattle.numa_page_state.specs.declared.shift.Shift.{Shift}
use Rattle.numa_page_state.proofs.Few.{leave-few, leave-from-few}
use Rattle.numa_pages.specs.Changes.{PagesState, lacking}
use Rattle.numa_pages.proofs.Summed.{ground-so, migrated-both, migrated-none, small-from}
use Rattle.numa_pages.proofs.Summed.{small-moved}
use Rattle.numa_pages.proofs.pages.Pages.migrate.Goals as goal

pub sum_of-requires-clause-moved : goal.sum_of-requires-clause-moved
sum_of-requires-clause-moved c =
    let few = small-moved c.self.inside.state c.migrate.new.self c.in-Ok.shift
    c.last_moved-small.result c.new-none.result c.args.from.now
    (both c.args.to.now c.space.result.now.allowed)
    (migrate_cause c.space.result.now.allowed c.args.to.now) c.in-Ok.ensures.does
    c.last_moved-small.ensures.last c.last_moved-small.ensures.shift in
    omega (arith, few)

pub sum_of-requires-clause-huge_moved : goal.sum_of-requires-clause-huge_moved
sum_of-requires-clause-huge_moved c =
    let few = leave-few c.args.from.now c.and-targets.result (huge_at c.self.inside.huge.runs) in
    omega (arith, few, c.follow-huge.ensures.told.moved)

pub sum_of-requires-clause-from : goal.sum_of-requires-clause-from
sum_of-requires-clause-from c node near =
    let few = small-from c.self.inside.state c.migrate.new.self c.in-Ok.shift
    c.last_moved-small.result c.new-none.result c.args.from.now
    (both c.args.to.now c.space.result.now.allowed)
    (migrate_cause c.space.result.now.allowed c.args.to.now) c.in-Ok.ensures.does
    c.last_moved-small.ensures.last c.last_moved-small.ensures.shift node near in
    omega (arith, few)

pub sum_of-requires-clause-huge_from : goal.sum_of-requires-clause-huge_from
sum_of-requires-clause-huge_from c node near =
    let few = leave-from-few c.args.from.now c.and-targets.result
    (huge_at c.self.inside.huge.runs) node in
    omega (arith, few, c.follow-huge.ensures.from node near)

pub returns-in-Ok : goal.returns-in-Ok
returns-in-Ok c =
    let before : PagesState = record {
      core = c.self.inside.core;
      state = c.self.inside.state;
      huge = c.self.inside.huge;
    } in
    let to : c.and-targets.result ≡ both c.args.to.now before.core.space.allowed =
    c.and-targets.ensures ∙ ap (both c.args.to.now) (c.allowed.ensures.allowed
    ∙ ap (λ (s : SpaceState). s.allowed) c.space-in-Ok.ensures.space) in
    rw (← c.self.view_is) (migrated-both c.args.from.now c.args.to.now before
    (record {
      core = c.self.inside.core;
      state = c.migrate.new.self;
      huge = c.follow-huge.new.self;
    })
    refl c.in-Ok.shift c.last_moved-small.result c.follow-huge.result c.sum_of.result
    (ground-so before.state c.migrate.new.self (Ok c.in-Ok.shift) c.space.result.now
    before.core.space c.new-none.result c.args.from.now c.args.to.now c.space.ensures.space
    c.new-none.ensures c.in-Ok.ensures.does) c.last_moved-small.ensures.last
    c.last_moved-small.ensures.shift
    (c.follow-huge.ensures.pages
    ∙ ap (λ n. following c.args.from.now n (places_of c.self.inside.huge)) to)
    (subst (λ n. HasTold (Nodes c.follow-huge.result)
    (told_following c.args.from.now n (huge_at c.self.inside.huge.runs))) to
    c.follow-huge.ensures.told)
    (subst (λ n. (node : ℕ) → node < 256 → slice_index c.follow-huge.result.from node
    ≡ leave_from c.args.from.now n (huge_at c.self.inside.huge.runs) node) to
    c.follow-huge.ensures.from) c.sum_of.ensures.moved c.sum_of.ensures.left
    c.sum_of.ensures.from c.sum_of.ensures.to)

pub returns : goal.returns
returns c =
    let before : PagesState = record {
      core = c.self.inside.core;
      state = c.self.inside.state;
      huge = c.self.inside.huge;
    } in
    rw (← c.self.view_is) (migrated-none c.args.from.now c.args.to.now before
    (record { core = c.self.inside.core; state = c.migrate.new.self; huge = c.self.inside.huge })
    refl c.in-Err.cause (ground-so before.state c.migrate.new.self (Err c.in-Err.cause)
    c.space.result.now before.core.space c.new-none.result c.args.from.now c.args.to.now
    c.space.ensures.space c.new-none.ensures c.in-Err.ensures.does) c.in-Err.ensures.unchanged refl)
