use Rattle.std.proofs.Common.{ap, ◌∙◌, refl, slice_index}
use Rattle.numa_placed.specs.Turns.{moved_slot}
use Rattle.numa_placed.proofs.Begun.{kept-gone}
use Rattle.numa_placed.proofs.Slots.{named-sent, spots-sent, whole-sent}
use Rattle.numa_placed.proofs.places.send_places.Goals as goal

pub update_all-requires-clause-function : goal.update_all-requires-clause-function
update_all-requires-clause-function c =
    let go = slice_index c.args.targets.now in
    (moved_slot go, λ x r h. h.says.met go (λ node small. refl) ∙ ap (moved_slot go) h.shows)

pub returns-clause-kept : goal.returns-clause-kept
returns-clause-kept c =
    let go = slice_index c.args.targets.now in
    let nodes = c.args.places.now.nodes.items in
    let old = c.args.places.now.map.runs in
    let pages = c.update_all.ensures.pages (moved_slot go)
    (λ x r h. h.says.met go (λ node small. refl) ∙ ap (moved_slot go) h.shows) in
    record {
      whole = whole-sent go nodes c.send_nodes.new.nodes.items old c.update_all.new.self.runs
          c.requires.kept.whole c.requires.kept.named c.send_nodes.ensures.same pages;
      named = named-sent go nodes c.send_nodes.new.nodes.items old c.update_all.new.self.runs
          c.requires.kept.whole c.requires.kept.named c.send_nodes.ensures.same pages;
    }

pub returns-clause-spots : goal.returns-clause-spots
returns-clause-spots c go are page =
    let pages = c.update_all.ensures.pages (moved_slot go)
    (λ x r h. h.says.met go are ∙ ap (moved_slot go) h.shows) in
    spots-sent go c.args.places.now.nodes.items c.send_nodes.new.nodes.items
    c.args.places.now.map.runs c.update_all.new.self.runs c.requires.kept.whole
    c.requires.kept.named c.send_nodes.ensures.same pages (c.send_nodes.ensures.sent go are) page

pub returns-clause-few : goal.returns-clause-few
returns-clause-few c =
    let go = slice_index c.args.targets.now in
    let pages = c.update_all.ensures.pages (moved_slot go)
    (λ x r h. h.says.met go (λ node small. refl) ∙ ap (moved_slot go) h.shows) in
    kept-gone go c.args.places.now
    record { map = c.update_all.new.self; nodes = c.send_nodes.new.nodes } pages
    (spots-sent go c.args.places.now.nodes.items c.send_nodes.new.nodes.items
    c.args.places.now.map.runs c.update_all.new.self.runs c.requires.kept.whole
    c.requires.kept.named c.send_nodes.ensures.same pages
    (c.send_nodes.ensures.sent go (λ node small. refl)))
