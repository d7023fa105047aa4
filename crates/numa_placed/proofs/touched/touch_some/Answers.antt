use Rattle.std.proofs.Common.{◌≡◌, ◌+◌, ◌-◌, ◌<◌, ◌≤◌, ◌∙◌, ℕ, Bool, List, ap, arith, false}
use Rattle.std.proofs.Common.{subst, sym}
use Rattle.numa_placed.specs.Binds.{Asked, asked_by, wants_of}
use Rattle.numa_placed.specs.Standing.{Sends}
use Rattle.numa_placed.specs.Turns.{IsNamed, slot_spot, spots_of, turn_node}
use Rattle.numa_placed.specs.Walks.{IsWalked}
use Rattle.numa_placed.specs.declared.spot.Spot.{Spot}
use Rattle.numa_placed.specs.declared.spot.Spot.TheVariants.{Stated}
use Rattle.numa_placed.proofs.Slots.{spot-kept}
use Rattle.numa_placed.proofs.Stepping.{if_ok_three, strays-here, strays-none, walked-next}
use Rattle.numa_placed.proofs.Stepping.{walked-over}
use Rattle.numa_placed.proofs.touched.touch_some.Goals as goal

pub first_in_turn-next-requires-clause-named : goal.first_in_turn-next-requires-clause-named
first_in_turn-next-requires-clause-named c =
    let page = c.args.page in
    subst (λ (l : List ℕ). IsNamed l c.in-InTurn.turn) (sym c.deref.ensures.value)
    (c.requires.kept.named page c.in-InTurn.turn (c.same_until-slot.ensures.slots page
    (omega arith) (omega (arith, c.same_until-slot.ensures.rises)) ∙ c.in-InTurn.is))

pub returns-then-next-page-clause-walked : goal.returns-then-next-page-clause-walked
returns-then-next-page-clause-walked c first old room low walked =
    let asked : Asked = asked_by c.args.space.now c.args.wants.now first (c.args.to - first)
    c.args.touch.task c.args.touch.cpu in
    let nodes = c.args.places.now.nodes.items in
    let runs = c.args.places.now.map.runs in
    let turn = c.in-InTurn.turn in
    let next = c.first_in_turn-next.result in
    let within : next ≤ c.same_until-slot.result.1 = c.first_in_turn-next.ensures.within in
    let here : (p : ℕ) → c.args.page ≤ p → p < next → old p ≡ Stated (turn_node nodes turn p) =
    λ p from to. sym (walked.ahead p from)
    ∙ spot-kept nodes runs p (c.requires.kept.whole p
    (omega (arith, to, within, c.same_until-slot.ensures.within, c.requires.within)))
    ∙ ap (slot_spot nodes p) (c.same_until-slot.ensures.slots p from (omega (arith, to, within))
    ∙ c.in-InTurn.is) in
    let stay : (p : ℕ) → c.args.page ≤ p → p < next
    → wants_of c.args.wants.now p (Stated (turn_node nodes turn p)) ≡ false =
    λ p from to. ap (λ (l : List ℕ). wants_of c.args.wants.now p (Stated (turn_node l turn p)))
    (sym c.deref.ensures.value) ∙ c.first_in_turn-next.ensures.stay p from to in
    walked-over asked old room c.args.page next (spots_of c.args.places.now) c.args.walk.now
    (omega arith) (λ p from to. strays-none asked p (old p)
    (ap (λ (spot : Spot). wants_of c.args.wants.now p spot) (here p from to)
    ∙ stay p from to)) walked

pub returns-then-not-may_take-clause-walked : goal.returns-then-not-may_take-clause-walked
returns-then-not-may_take-clause-walked c first old room low walked =
    let asked : Asked = asked_by c.args.space.now c.args.wants.now first (c.args.to - first)
    c.args.touch.task c.args.touch.cpu in
    let nodes = c.args.places.now.nodes.items in
    let runs = c.args.places.now.map.runs in
    let spot = c.in-Lies.spot in
    let end = c.same_until-slot.result.1 in
    let here : (p : ℕ) → c.args.page ≤ p → p < end → old p ≡ spot = λ p from to.
    sym (walked.ahead p from)
    ∙ spot-kept nodes runs p (c.requires.kept.whole p
    (omega (arith, to, c.same_until-slot.ensures.within, c.requires.within)))
    ∙ ap (slot_spot nodes p) (c.same_until-slot.ensures.slots p from to ∙ c.in-Lies.is) in
    walked-over asked old room c.args.page end (spots_of c.args.places.now) c.args.walk.now
    (omega (arith, c.same_until-slot.ensures.rises)) (λ p from to. strays-none asked p (old p)
    (ap (λ (spot : Spot). wants_of c.args.wants.now p spot) (here p from to)
    ∙ c.may_take.ensures c.if-not-may_take.true p)) walked

pub returns-else-not-may_take-clause-walked : goal.returns-else-not-may_take-clause-walked
returns-else-not-may_take-clause-walked c first old room low walked =
    let asked : Asked = asked_by c.args.space.now c.args.wants.now first (c.args.to - first)
    c.args.touch.task c.args.touch.cpu in
    let nodes = c.args.places.now.nodes.items in
    let runs = c.args.places.now.map.runs in
    let spot = c.in-Lies.spot in
    let page = c.args.page in
    let end = c.same_until-slot.result.1 in
    let test : ℕ → Bool = λ p. wants_of c.args.wants.now p spot in
    let before = spots_of c.args.places.now in
    let later = spots_of c.touch_alike.new.places in
    let walk = c.args.walk.now in
    let more = c.touch_alike.new.walk in
    let here : (p : ℕ) → page ≤ p → p < end → old p ≡ spot = λ p from to.
    sym (walked.ahead p from)
    ∙ spot-kept nodes runs p (c.requires.kept.whole p
    (omega (arith, to, c.same_until-slot.ensures.within, c.requires.within)))
    ∙ ap (slot_spot nodes p) (c.same_until-slot.ensures.slots p from to ∙ c.in-Lies.is) in
    if_ok_three (λ next. next ≤ end) (λ next. page < next)
    (λ next. Sends test asked.nodes spot page next before later walk more)
    (λ next. IsWalked asked old room next later more) c.touch_alike.result
    (λ next high rises sends. walked-next asked old room page next (omega (arith, rises)) spot test
    before later walk more walked (λ p from to. here p from (omega (arith, to, high)))
    (λ p from to. strays-here asked p spot (omega (arith, low, from))
    (omega (arith, to, high, low, from, c.same_until-slot.ensures.within))) sends)
    c.touch_alike.ensures.end c.touch_alike.ensures.next c.touch_alike.ensures.sent

pub returns-else-next-page-clause-walked : goal.returns-else-next-page-clause-walked
returns-else-next-page-clause-walked c first old room low walked =
    let asked : Asked = asked_by c.args.space.now c.args.wants.now first (c.args.to - first)
    c.args.touch.task c.args.touch.cpu in
    let spot = c.spot_of-spot.result in
    let page = c.args.page in
    let test : ℕ → Bool = λ p. wants_of c.args.wants.now p spot in
    let before = spots_of c.args.places.now in
    let later = spots_of c.touch_alike-in-InTurn.new.places in
    let walk = c.args.walk.now in
    let more = c.touch_alike-in-InTurn.new.walk in
    let here : (p : ℕ) → page ≤ p → p < page + 1 → old p ≡ spot = λ p from to.
    let is : p ≡ page = omega (arith, from, to) in
    sym (walked.ahead p from) ∙ ap before is ∙ sym c.spot_of-spot.ensures in
    if_ok_three (λ next. next ≤ page + 1) (λ next. page < next)
    (λ next. Sends test asked.nodes spot page next before later walk more)
    (λ next. IsWalked asked old room next later more) c.touch_alike-in-InTurn.result
    (λ next high rises sends. walked-next asked old room page next (omega (arith, rises)) spot test
    before later walk more walked (λ p from to. here p from (omega (arith, to, high)))
    (λ p from to. strays-here asked p spot (omega (arith, low, from))
    (omega (arith, to, high, low, from, c.requires.rises))) sends)
    c.touch_alike-in-InTurn.ensures.end c.touch_alike-in-InTurn.ensures.next
    c.touch_alike-in-InTurn.ensures.sent
