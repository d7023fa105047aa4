use Rattle.std.proofs.Common.{◌≡◌, ◌≢◌, ◌+◌, ◌<◌, ◌≤◌, ◌∙◌, ℕ, ap, arith, inl, inr, sym}
use Rattle.std.proofs.lemmas.Bool.{cases_eq}
use Rattle.numa_placed.specs.Binds.{wants_of}
use Rattle.numa_placed.specs.Turns.{slot_spot, spots_of}
use Rattle.numa_placed.specs.declared.spot.Spot.{Spot}
use Rattle.numa_placed.specs.declared.spot.Spot.TheVariants.{Nowhere}
use Rattle.numa_placed.specs.declared.turn.Slot.TheVariants.{Lies}
use Rattle.numa_placed.proofs.Slots.{spot-kept}
use Rattle.numa_placed.proofs.once.alike_until.Goals as goal

pub returns-clause-nowhere : goal.returns-clause-nowhere
returns-clause-nowhere c p from to =
    let nodes = c.args.places.now.nodes.items in
    let runs = c.args.places.now.map.runs in
    spot-kept nodes runs p (c.requires.kept.whole p
    (omega (
      arith,
      to,
      c.stretch_end.ensures.within,
      c.same_until-slot.ensures.within,
      c.requires.within,
    )))
    ∙ ap (slot_spot nodes p) (c.same_until-slot.ensures.slots p from
    (omega (arith, to, c.stretch_end.ensures.within)) ∙ c.in-Lies.is ∙ ap Lies c.in-Nowhere.is)

pub returns-clause-wanted : goal.returns-clause-wanted
returns-clause-wanted c p from to = elim (cases_eq c.stretch_end.result (c.args.page + 1)) [
  | inl one ↦
      let is : p ≡ c.args.page = omega (arith, from, to, one) in
      ap (λ (q : ℕ). wants_of c.args.wants.now q Nowhere) is ∙ sym c.takes.ensures
      ∙ c.if-not-takes.false
  | inr many ↦ c.stretch_end.ensures.wanted many p from to
]
