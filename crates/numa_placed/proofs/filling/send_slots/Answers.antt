use Rattle.std.proofs.Common.{◌∙◌, ap, refl, slice_index}
use Rattle.numa_placed.specs.Cuts.{shifted_slot}
use Rattle.numa_placed.proofs.filling.send_slots.Goals as goal

pub update_span-requires-clause-function : goal.update_span-requires-clause-function
update_span-requires-clause-function c =
    let go = slice_index c.args.targets.now in
    let change = shifted_slot go c.args.behind in
    (change, λ x r h. h.says.met go (λ node small. refl) ∙ ap change h.shows)

pub returns-clause-shows : goal.returns-clause-shows
returns-clause-shows c go are =
    let change = shifted_slot go c.args.behind in
    c.in-Ok.ensures.ok change (λ x r h. h.says.met go are ∙ ap change h.shows)
