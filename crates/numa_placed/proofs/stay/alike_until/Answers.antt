use Rattle.std.proofs.Common.{◌<◌, ◌∙◌, ℕ, List, ap, arith, subst, sym}
use Rattle.numa_placed.specs.Turns.{IsNamed, slot_spot}
use Rattle.numa_placed.proofs.Slots.{spot-kept}
use Rattle.numa_placed.proofs.stay.alike_until.Goals as goal

pub slot_until-requires-clause-named : goal.slot_until-requires-clause-named
slot_until-requires-clause-named c turn is =
    let page = c.args.page in
    subst (λ (l : List ℕ). IsNamed l turn) (sym c.deref.ensures.value)
    (c.requires.kept.named page turn (c.same_until-slot.ensures.slots page (omega arith)
    (omega (arith, c.same_until-slot.ensures.rises)) ∙ is))

pub returns-clause-alike : goal.returns-clause-alike
returns-clause-alike c p low high =
    let nodes = c.args.places.now.nodes.items in
    let slot = c.same_until-slot.result.0 in
    spot-kept nodes c.args.places.now.map.runs p (c.requires.kept.whole p
    (omega (arith, high, c.slot_until.ensures.within, c.same_until-slot.ensures.within)))
    ∙ ap (slot_spot nodes p) (c.same_until-slot.ensures.slots p low
    (omega (arith, high, c.slot_until.ensures.within)))
    ∙ ap (λ (l : List ℕ). slot_spot l p slot) (sym c.deref.ensures.value)
    ∙ c.slot_until.ensures.alike p low high

pub returns-clause-ends : goal.returns-clause-ends
returns-clause-ends c is same =
    let nodes = c.args.places.now.nodes.items in
    let slot = c.same_until-slot.result.0 in
    let page = c.args.page in
    let here : page < c.same_until-slot.result.1 = c.same_until-slot.ensures.rises in
    c.slot_until.ensures.ends (omega (arith, is, here))
    (ap (λ (p : ℕ). slot_spot c.deref.result.now p slot) is
    ∙ ap (λ (l : List ℕ). slot_spot l page slot) c.deref.ensures.value
    ∙ sym (ap (slot_spot nodes page)
    (c.same_until-slot.ensures.slots page (omega arith) (omega (arith, here))))
    ∙ sym (spot-kept nodes c.args.places.now.map.runs page
    (c.requires.kept.whole page c.requires.near)) ∙ same)
