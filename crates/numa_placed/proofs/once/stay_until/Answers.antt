use Rattle.std.proofs.Common.{◌≡◌, ◌+◌, ◌<◌, ◌≤◌, ◌∙◌, ℕ, List, ap, arith, false, subst, sym}
use Rattle.numa_placed.specs.Binds.{wants_of}
use Rattle.numa_placed.specs.Turns.{IsNamed, slot_spot, spots_of, turn_node}
use Rattle.numa_placed.specs.declared.spot.Spot.{Spot}
use Rattle.numa_placed.specs.declared.spot.Spot.TheVariants.{Stated}
use Rattle.numa_placed.proofs.Slots.{spot-kept}
use Rattle.numa_placed.proofs.once.stay_until.Goals as goal

pub first_in_turn-requires-clause-named : goal.first_in_turn-requires-clause-named
first_in_turn-requires-clause-named c =
    let page = c.args.page in
    subst (λ (l : List ℕ). IsNamed l c.in-InTurn.turn) (sym c.deref.ensures.value)
    (c.requires.kept.named page c.in-InTurn.turn (c.same_until-slot.ensures.slots page
    (omega arith) (omega (arith, c.same_until-slot.ensures.rises)) ∙ c.in-InTurn.is))

pub returns-then-not-may_take-clause-stay : goal.returns-then-not-may_take-clause-stay
returns-then-not-may_take-clause-stay c p from to =
    let nodes = c.args.places.now.nodes.items in
    let runs = c.args.places.now.map.runs in
    let spot = c.in-Lies.spot in
    let here : spots_of c.args.places.now p ≡ spot =
    spot-kept nodes runs p (c.requires.kept.whole p
    (omega (arith, to, c.same_until-slot.ensures.within, c.requires.within)))
    ∙ ap (slot_spot nodes p) (c.same_until-slot.ensures.slots p from to ∙ c.in-Lies.is) in
    ap (λ (spot : Spot). wants_of c.args.wants.now p spot) here
    ∙ c.may_take.ensures c.if-not-may_take.true p

pub returns-in-InTurn-clause-stay : goal.returns-in-InTurn-clause-stay
returns-in-InTurn-clause-stay c p from to =
    let nodes = c.args.places.now.nodes.items in
    let runs = c.args.places.now.map.runs in
    let turn = c.in-InTurn.turn in
    let within = c.first_in_turn.ensures.within in
    let here : spots_of c.args.places.now p ≡ Stated (turn_node nodes turn p) =
    spot-kept nodes runs p (c.requires.kept.whole p
    (omega (arith, to, within, c.same_until-slot.ensures.within, c.requires.within)))
    ∙ ap (slot_spot nodes p) (c.same_until-slot.ensures.slots p from (omega (arith, to, within))
    ∙ c.in-InTurn.is) in
    ap (λ (spot : Spot). wants_of c.args.wants.now p spot) here
    ∙ ap (λ (l : List ℕ). wants_of c.args.wants.now p (Stated (turn_node l turn p)))
    (sym c.deref.ensures.value) ∙ c.first_in_turn.ensures.stay p from to
