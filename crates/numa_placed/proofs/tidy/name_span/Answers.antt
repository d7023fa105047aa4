use Rattle.std.proofs.Common.{ap, ◌∙◌}
use Rattle.numa_placed.specs.Turns.{turned_slot}
use Rattle.numa_placed.proofs.tidy.name_span.Goals as goal

pub update_span-requires-clause-function : goal.update_span-requires-clause-function
update_span-requires-clause-function c =
    let change = turned_slot c.args.turn in
    (change, λ x r h. h.says.met ∙ ap change h.shows)

pub returns-clause-shows : goal.returns-clause-shows
returns-clause-shows c =
    let change = turned_slot c.args.turn in
    c.in-Ok.ensures.ok change (λ x r h. h.says.met ∙ ap change h.shows)
