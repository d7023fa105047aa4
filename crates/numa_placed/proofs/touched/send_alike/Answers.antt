use Rattle.std.proofs.Common.{◌≡◌, ◌+◌, ◌-◌, ◌<◌, ◌≤◌, ℕ, ap, arith, refl, subst, sym}
use Rattle.std.proofs.Common.{◌∙◌}
use Rattle.numa_placed.specs.Binds.{first_with_room, nodes_in}
use Rattle.numa_placed.specs.Turns.{spots_of}
use Rattle.numa_placed.specs.Standing.{Sends}
use Rattle.numa_placed.specs.declared.bind.Walk.{Walk}
use Rattle.numa_placed.specs.declared.spot.Spot.TheVariants.{Nowhere}
use Rattle.numa_placed.proofs.Alike.{sends-to}
use Rattle.numa_placed.proofs.Lacking.{sends-lacking}
use Rattle.numa_placed.proofs.Sending.{all}
use Rattle.numa_placed.proofs.touched.send_alike.Goals as goal

pub returns-in_default-clause-sent : goal.returns-in_default-clause-sent
returns-in_default-clause-sent c =
    let nodes = nodes_in c.args.space.now c.args.touch.task c.args.touch.cpu in
    let page = c.args.page in
    let n = c.args.end - c.args.page in
    let old = spots_of c.args.places.now in
    let walk = c.args.walk.now in
    let more : Walk = record {
      rooms = walk.rooms;
      told = record { moved = walk.told.moved; left = walk.told.left + n };
    } in
    let alike : (p : ℕ) → page ≤ p → p < page + n → nodes p ≡ nodes page =
    λ p low high. c.requires.alike p low (omega arith) in
    let at : page + n ≡ c.args.end = omega arith in
    subst (λ (e : ℕ). Sends all nodes Nowhere page e old old walk more) at
    (sends-lacking nodes page n old walk more (λ room are p low high.
    ap (first_with_room room) (alike p low high)
    ∙ sym (c.node_with_room.ensures.first room are) ∙ c.in_default.is) refl refl refl)

pub returns-clause-sent : goal.returns-clause-sent
returns-clause-sent c =
    let nodes = nodes_in c.args.space.now c.args.touch.task c.args.touch.cpu in
    let page = c.args.page in
    let n = c.fitting-pages.result in
    let walk = c.args.walk.now in
    let more : Walk = record {
      rooms = c.take.new.self;
      told = record { moved = walk.told.moved + n; left = walk.told.left };
    } in
    let alike : (p : ℕ) → page ≤ p → p < page + n → nodes p ≡ nodes page =
    λ p low high. c.requires.alike p low (omega (arith, c.fitting-pages.ensures.many, high)) in
    sends-to nodes page n alike c.in-Some.node (omega arith) (spots_of c.args.places.now)
    (spots_of c.change_places.new.places) walk more
    (λ room are. sym (c.node_with_room.ensures.first room are) ∙ c.in-Some.is)
    c.fitting-pages.ensures.room c.fitting-pages.ensures.most c.in-Ok.ensures.spots
    c.take.ensures refl refl
