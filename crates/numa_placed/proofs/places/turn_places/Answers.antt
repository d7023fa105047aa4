use Rattle.std.proofs.Common.{ap, ◌∙◌}
use Rattle.numa_placed.specs.Spots.{stated_spot}
use Rattle.numa_placed.specs.Turns.{turn_node, turned_slot}
use Rattle.numa_placed.proofs.Slots.{lifts-turned, makes-turn, named-so, spots-so, whole-so}
use Rattle.numa_placed.proofs.places.turn_places.Goals as goal

pub update_span-requires-clause-function : goal.update_span-requires-clause-function
update_span-requires-clause-function c =
    let change = turned_slot c.args.turn in
    (change, λ x r h. h.says.met ∙ ap change h.shows)

pub returns-clause-kept : goal.returns-clause-kept
returns-clause-kept c =
    let change = turned_slot c.args.turn in
    let old = c.args.places.now.map.runs in
    let new = c.update_span.new.self.runs in
    let nodes = c.args.places.now.nodes.items in
    let shows = c.in-Ok.ensures.ok change (λ x r h. h.says.met ∙ ap change h.shows) in
    record {
      whole = whole-so c.args.first c.args.pages change old new c.requires.span.within
          c.requires.kept.whole shows;
      named = named-so c.args.first c.args.pages change old new c.requires.span.within
          c.requires.kept.whole shows nodes c.requires.kept.named
          (λ slot made is held. makes-turn nodes c.args.turn slot made c.requires.named is);
    }

pub returns-clause-spots : goal.returns-clause-spots
returns-clause-spots c page =
    let change = turned_slot c.args.turn in
    let nodes = c.args.places.now.nodes.items in
    spots-so c.args.first c.args.pages change c.args.places.now.map.runs
    c.update_span.new.self.runs c.requires.span.within c.requires.kept.whole
    (c.in-Ok.ensures.ok change (λ x r h. h.says.met ∙ ap change h.shows)) nodes
    (λ p. stated_spot (turn_node nodes c.args.turn p)) (lifts-turned nodes c.args.turn) page
