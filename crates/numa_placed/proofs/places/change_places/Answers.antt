use Rattle.std.proofs.Common.{ap, ◌∙◌, sym}
use Rattle.numa_placed.specs.Exact.{slot-exact}
use Rattle.numa_placed.specs.Spots.{changed_spot}
use Rattle.numa_placed.specs.Turns.{changed_slot}
use Rattle.numa_placed.specs.contracts.turn.SlotPartialEq.TheImpl as slot_test
use Rattle.numa_placed.specs.contracts.turn.SlotEq.TheImpl.Laws as slot_law
use Rattle.numa_placed.proofs.Slots.{few-so, lifts-changed, makes-none, named-so, spots-so}
use Rattle.numa_placed.proofs.Slots.{whole-so}
use Rattle.numa_placed.proofs.places.change_places.Goals as goal

pub update_span-requires-clause-function : goal.update_span-requires-clause-function
update_span-requires-clause-function c =
    let change = changed_slot c.args.span.change in
    (change, λ x r h. h.says.met ∙ ap change h.shows)

pub returns-clause-kept : goal.returns-clause-kept
returns-clause-kept c =
    let change = changed_slot c.args.span.change in
    let old = c.args.places.now.map.runs in
    let new = c.update_span.new.self.runs in
    let nodes = c.args.places.now.nodes.items in
    let shows = c.in-Ok.ensures.ok change (λ x r h. h.says.met ∙ ap change h.shows) in
    record {
      whole = whole-so c.args.span.first c.args.span.pages change old new c.requires.span.within
          c.requires.kept.whole shows;
      named = named-so c.args.span.first c.args.span.pages change old new c.requires.span.within
          c.requires.kept.whole shows nodes c.requires.kept.named
          (λ slot turn is held. makes-none nodes c.args.span.change slot turn is);
    }

pub returns-clause-spots : goal.returns-clause-spots
returns-clause-spots c page =
    let change = changed_slot c.args.span.change in
    let nodes = c.args.places.now.nodes.items in
    spots-so c.args.span.first c.args.span.pages change c.args.places.now.map.runs
    c.update_span.new.self.runs c.requires.span.within c.requires.kept.whole
    (c.in-Ok.ensures.ok change (λ x r h. h.says.met ∙ ap change h.shows)) nodes
    (λ p. changed_spot c.args.span.change) (lifts-changed nodes c.args.span.change) page

pub returns-clause-few : goal.returns-clause-few
returns-clause-few c =
    let change = changed_slot c.args.span.change in
    few-so c.args.span.first c.args.span.pages change c.args.places.now.map.runs
    c.update_span.new.self.runs c.requires.span.within c.requires.kept.whole
    (c.in-Ok.ensures.ok change (λ x r h. h.says.met ∙ ap change h.shows))
    slot_test.ghosts.eq slot-exact slot_law.laws-law.refl
    (sym c.len.ensures.count ∙ c.len.ensures.runs)
    (sym c.len-2.ensures.count ∙ c.len-2.ensures.runs)
