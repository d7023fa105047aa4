use Rattle.std.proofs.Common.{is_some, ap, sym, ◌∙◌}
use Rattle.numa_ranges.specs.Runs.{page_at}
use Rattle.numa_placed.specs.Refusals.{move_cause}
use Rattle.numa_placed.specs.Spots.{changed_spots, spot_at, stated_spot}
use Rattle.numa_placed.specs.declared.spot.Spot.{Spot}
use Rattle.numa_placed.proofs.Edits.{move-refusal}
use Rattle.numa_placed.proofs.placed.Placed.move_page.Goals as goal

pub returns-clause-err : goal.returns-clause-err
returns-clause-err c =
    let cause = λ (spot : Spot). move_cause c.args.space.now.machine c.args.space.now.allowed
    c.args.node (is_some (page_at c.args.space.now.ranges c.args.page)) spot in
    move-refusal (cause (spot_at c.args.self.now c.args.page)) _
    (changed_spots c.args.page 1 (stated_spot c.args.node) (spot_at c.args.self.now))
    c.edit_places-outcome.result c.move_outcome.result
    (ap cause (sym c.at.ensures) ∙ c.in_ok-judge_move.ensures.cause)
    (λ i. changed_spots c.args.page 1 (stated_spot c.args.node) (spot_at (c.self.view_is i)))
    c.edit_places-outcome.ensures.edit.lack c.move_outcome.ensures
