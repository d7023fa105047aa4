use Rattle.std.proofs.Common.{◌≡◌, ℕ, Option, true, ap, sym, subst, ◌∙◌}
use Rattle.std.specs.Prelude.{◌&&◌, not}
use Rattle.numa_mask.specs.NodeSet.{has}
use Rattle.numa_ranges.specs.Runs.{in_pages}
use Rattle.numa_space.specs.History.{page_of, page_count}
use Rattle.numa_placed.specs.Binds.{goals, room_before}
use Rattle.numa_placed.specs.Spots.{spot_at}
use Rattle.numa_page_state.specs.Sending.{is_held}
use Rattle.numa_page_state.specs.Standing.{IsFront, asked_for}
use Rattle.numa_page_state.specs.declared.staying.Front.{Front}
use Rattle.numa_page_state.proofs.Fronts.{front-here, one-so}
use Rattle.numa_page_state.proofs.staying.one_kept.Goals as goal

pub returns-clause-rooms : goal.returns-clause-rooms
returns-clause-rooms c = λ room are is.
    let asked = asked_for c.args.space.now c.args.said.now c.args.toucher in
    let from : IsFront asked (spot_at c.args.placed.now) room c.front_for-from.result =
    subst (λ (f : Front). IsFront asked (spot_at c.args.placed.now) room f)
    (sym c.front_for-from.ensures)
    (front-here asked (spot_at c.args.placed.now) room c.args.front.now c.args.given.now c.args.page
    are is) in
    record { rooms = c.in-Ok.ensures room from.rooms }

pub returns-clause-one : goal.returns-clause-one
returns-clause-one c = λ room are is.
    let asked = asked_for c.args.space.now c.args.said.now c.args.toucher in
    let from : IsFront asked (spot_at c.args.placed.now) room c.front_for-from.result =
    subst (λ (f : Front). IsFront asked (spot_at c.args.placed.now) room f)
    (sym c.front_for-from.ensures)
    (front-here asked (spot_at c.args.placed.now) room c.args.front.now c.args.given.now c.args.page
    are is) in
    let strayed : (in_pages (page_of c.args.said.now.start) (page_count c.args.said.now.length)
    c.args.page && not (has c.args.said.now.spec.mask c.args.node)) ≡ true =
    sym c.strays.ensures ∙ c.if-not-strays.false in
    let kept : c.is_held.result ≡ is_held (goals asked (spot_at c.args.placed.now) room c.args.page)
    c.args.node =
    c.is_held.ensures ∙ ap (λ (o : Option ℕ). is_held o c.args.node)
    (c.node_with_room-goal.ensures.first
    (room_before asked (spot_at c.args.placed.now) room c.args.page)
    (c.in-Ok.ensures room from.rooms)) in
    one-so c.one_if.result c.is_held.result _ _ strayed kept c.one_if.ensures.one
