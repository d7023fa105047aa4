use Rattle.std.proofs.Common.{◌≡◌, ◌+◌, ◌-◌, ◌<◌, ◌≤◌, ℕ, Option, Some, arith, refl, subst, sym}
use Rattle.std.specs.Prelude.{IfSome}
use Rattle.numa_placed.specs.Binds.{first_with_room, nodes_in}
use Rattle.numa_placed.specs.Standing.{Sends}
use Rattle.numa_placed.specs.Turns.{spots_of, turn_node}
use Rattle.numa_placed.specs.declared.bind.Walk.{Walk}
use Rattle.numa_placed.specs.declared.spot.Spot.{Spot}
use Rattle.numa_placed.specs.declared.spot.Spot.TheVariants.{Nowhere}
use Rattle.numa_placed.specs.declared.turn.Turn.{Turn}
use Rattle.numa_placed.proofs.Lacking.{all-lack, sends-lacking}
use Rattle.numa_placed.proofs.Sending.{all}
use Rattle.numa_placed.proofs.in_turn.send_turns.Goals as goal

pub returns-then-sent-clause-sent : goal.returns-then-sent-clause-sent
returns-then-sent-clause-sent c some =
    let nodes = nodes_in c.args.space.now c.args.touch.task c.args.touch.cpu in
    let list = c.plan_turn.new.places.nodes.items in
    let to = c.fitting_end-to.result in
    let same : spots_of c.plan_turn.new.places ≡ spots_of c.args.places.now =
    λ i page. c.plan_turn.ensures.spots page i in
    subst (λ (old : ℕ → Spot). Sends all nodes Nowhere c.args.page to old
    (spots_of c.fill_turn.new.places) c.args.walk.now c.fill_turn.new.walk) same
    (c.in-Ok-fill_turn.ensures.sent nodes (λ room are p low high.
    (subst (λ (o : Option Turn). IfSome o (λ turn. (p : ℕ) → c.args.page ≤ p → p < c.args.end
    → first_with_room room (nodes p) ≡ Some (turn_node list turn p))) c.in-Some.is
    (c.in-Ok.ensures.heads room are)) p low (omega (arith, high, c.fitting_end-to.ensures.high)))
    c.if-sent.true)

pub returns-then-all_lack_room-clause-sent : goal.returns-then-all_lack_room-clause-sent
returns-then-all_lack_room-clause-sent c some =
    let nodes = nodes_in c.args.space.now c.args.touch.task c.args.touch.cpu in
    let page = c.args.page in
    let n = c.args.end - c.args.page in
    let old = spots_of c.args.places.now in
    let walk = c.args.walk.now in
    let more : Walk = record {
      rooms = walk.rooms;
      told = record { moved = walk.told.moved; left = walk.told.left + n };
    } in
    let same : old ≡ spots_of c.plan_turn.new.places =
    λ i p. sym (c.plan_turn.ensures.spots p) i in
    let at : page + n ≡ c.args.end = omega (arith, c.requires.long) in
    subst (λ (new : ℕ → Spot). Sends all nodes Nowhere page c.args.end old new walk more) same
    (subst (λ (e : ℕ). Sends all nodes Nowhere page e old old walk more) at
    (sends-lacking nodes page n old walk more (λ room are.
    all-lack nodes page n c.args.count room c.requires.some c.requires.repeats
    (c.all_lack_room.ensures c.if-all_lack_room.true room are)) refl refl refl))
