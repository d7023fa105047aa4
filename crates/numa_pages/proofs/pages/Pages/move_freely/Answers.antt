use Rattle.std.proofs.Common.{◌≡◌, ℕ, ◌<◌, ◌≤◌, false, true, None, Ok, Err, refl, sym, ap, ◌∙◌}
use Rattle.std.proofs.Common.{subst}
use Rattle.std.proofs.Common.{arith}
use Rattle.std.specs.Prelude.{Result, slice_index}
use Rattle.numa_core.specs.Standing.{setup_of}
use Rattle.numa_requests.specs.declared.command.Command.TheVariants.{SetMems}
use Rattle.numa_requests.specs.declared.page_refusal.PlacedRefusal.{PlacedRefusal}
use Rattle.numa_space.specs.Standing.{SpaceState}
use Rattle.numa_huge.specs.Huge.{huge_at}
use Rattle.numa_page_state.specs.declared.shift.Shift.{Shift}
use Rattle.numa_page_state.proofs.Few.{leave-few, leave-from-few}
use Rattle.numa_pages.specs.Changes.{Accepted, PagesState, huge_in, may_fill}
use Rattle.numa_pages.proofs.Moves.{goes-none, along-both, stayed}
use Rattle.numa_pages.proofs.Needing.{all-go}
use Rattle.numa_pages.proofs.Summed.{small-from, small-moved}
use Rattle.numa_pages.proofs.pages.Pages.move_freely.Goals as goal

pub unreachable-requires : goal.unreachable-requires
unreachable-requires c =
    all-go c.self.inside.state c.move_along.new.self c.new-none.result c.allowed-old.result
    c.allowed-new.result c.in-Err-move_along.field-0
    (subst (λ (p : PagesState). may_fill p.state ≡ false) (sym c.self.view_is) c.requires)
    c.in-Err-move_along.ensures.does

pub sum_of-requires-clause-moved : goal.sum_of-requires-clause-moved
sum_of-requires-clause-moved c =
    let few = small-moved c.self.inside.state c.move_along.new.self c.in-Ok-move_along.shift
    c.last_moved-small.result c.new-none.result c.allowed-old.result c.allowed-new.result None
    c.in-Ok-move_along.ensures.does
    c.last_moved-small.ensures.last c.last_moved-small.ensures.shift in
    omega (arith, few)

pub sum_of-requires-clause-huge_moved : goal.sum_of-requires-clause-huge_moved
sum_of-requires-clause-huge_moved c =
    let few = leave-few c.allowed-old.result c.allowed-new.result
    (huge_at c.self.inside.huge.runs) in
    omega (arith, few, c.follow-huge.ensures.told.moved)

pub sum_of-requires-clause-from : goal.sum_of-requires-clause-from
sum_of-requires-clause-from c node near =
    let few = small-from c.self.inside.state c.move_along.new.self c.in-Ok-move_along.shift
    c.last_moved-small.result c.new-none.result c.allowed-old.result c.allowed-new.result None
    c.in-Ok-move_along.ensures.does
    c.last_moved-small.ensures.last c.last_moved-small.ensures.shift node near in
    omega (arith, few)

pub sum_of-requires-clause-huge_from : goal.sum_of-requires-clause-huge_from
sum_of-requires-clause-huge_from c node near =
    let few = leave-from-few c.allowed-old.result c.allowed-new.result
    (huge_at c.self.inside.huge.runs) node in
    omega (arith, few, c.follow-huge.ensures.from node near)

pub returns-in-Ok-move_along : goal.returns-in-Ok-move_along
returns-in-Ok-move_along c =
    let before : PagesState = record {
      core = c.self.inside.core;
      state = c.self.inside.state;
      huge = c.self.inside.huge;
    } in
    let after : PagesState = record {
      core = c.carried_out.new.core;
      state = c.move_along.new.self;
      huge = c.follow-huge.new.self;
    } in
    let from = c.allowed-old.ensures.allowed
    ∙ ap (λ (s : SpaceState). s.allowed) c.space.ensures.space in
    let to = c.allowed-new.ensures.allowed
    ∙ ap (λ (s : SpaceState). s.allowed) c.space-in-Ok.ensures.space in
    rw (← c.self.view_is) (along-both c.args.mask before after c.carried_out.new.core
    (c.in-Ok.field-0, c.in-Ok.ensures.answers) refl c.in-Ok.ensures.setup c.new-none.result
    c.allowed-old.result c.allowed-new.result c.in-Ok-move_along.shift c.last_moved-small.result
    c.follow-huge.result c.sum_of.result c.new-none.ensures from to
    c.in-Ok-move_along.ensures.does c.last_moved-small.ensures.last
    c.last_moved-small.ensures.shift c.follow-huge.ensures.pages c.follow-huge.ensures.told
    c.follow-huge.ensures.from c.sum_of.ensures.moved c.sum_of.ensures.left
    c.sum_of.ensures.from c.sum_of.ensures.to)
