use Rattle.std.proofs.Common.{◌<◌, ◌∙◌, ◌^◌, ℕ, List, arith, subst, sym}
use Rattle.numa_placed.specs.Turns.{IsNamed}
use Rattle.numa_placed.proofs.Slots.{shown-as}
use Rattle.numa_placed.proofs.stay.alike_in.Goals as goal

pub slots_until-requires-clause-named : goal.slots_until-requires-clause-named
slots_until-requires-clause-named c turn is =
    let page = c.args.page in
    subst (λ (l : List ℕ). IsNamed l turn) (sym c.deref.ensures.value)
    (c.requires.kept.named page turn (c.same_until-slot.ensures.slots page (omega arith)
    (omega (arith, c.same_until-slot.ensures.rises)) ∙ is))

pub slots_until-requires-clause-other : goal.slots_until-requires-clause-other
slots_until-requires-clause-other c turn is =
    let page = c.args.page in
    subst (λ (l : List ℕ). IsNamed l turn) (sym c.deref-2.ensures.value)
    (c.requires.others.named page turn (c.same_until-other.ensures.slots page (omega arith)
    (omega (arith, c.same_until-other.ensures.rises)) ∙ is))

pub returns-clause-alike : goal.returns-clause-alike
returns-clause-alike c p low high =
    let a = c.args.places.now in
    let b = c.args.others.now in
    let before : p < c.same_until-other.result.1 =
    omega (arith, high, c.slots_until.ensures.within) in
    let first : p < c.same_until-slot.result.1 =
    omega (arith, before, c.same_until-other.ensures.within) in
    let near : p < 2 ^ 35 = omega (arith, first, c.same_until-slot.ensures.within) in
    shown-as a.nodes.items c.deref.result.now a.map.runs p c.same_until-slot.result.0
    c.deref.ensures.value c.requires.kept.whole near (c.same_until-slot.ensures.slots p low first)
    ∙ c.slots_until.ensures.alike p low high
    ∙ sym (shown-as b.nodes.items c.deref-2.result.now b.map.runs p c.same_until-other.result.0
    c.deref-2.ensures.value c.requires.others.whole near
    (c.same_until-other.ensures.slots p low before))

pub returns-clause-ends : goal.returns-clause-ends
returns-clause-ends c is same =
    let a = c.args.places.now in
    let b = c.args.others.now in
    let page = c.args.page in
    c.slots_until.ensures.ends is
    (sym (shown-as a.nodes.items c.deref.result.now a.map.runs page c.same_until-slot.result.0
    c.deref.ensures.value c.requires.kept.whole c.requires.near
    (c.same_until-slot.ensures.slots page (omega arith) c.same_until-slot.ensures.rises))
    ∙ same
    ∙ shown-as b.nodes.items c.deref-2.result.now b.map.runs page c.same_until-other.result.0
    c.deref-2.ensures.value c.requires.others.whole c.requires.near
    (c.same_until-other.ensures.slots page (omega arith) c.same_until-other.ensures.rises))
