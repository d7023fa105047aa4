use Rattle.std.proofs.Common.{◌≡◌, Option, None, is_some, ap, sym, subst, ◌∙◌}
use Rattle.std.specs.Prelude.{IfErr}
use Rattle.numa_ranges.specs.Runs.{page_at}
use Rattle.numa_placed.specs.Refusals.{IsMoveRefusal, move_cause}
use Rattle.numa_placed.specs.Shifts.{first_of, room_cause}
use Rattle.numa_placed.specs.Spots.{changed_spots, spot_at, stated_spot}
use Rattle.numa_requests.specs.declared.page_refusal.MoveRefusal.{MoveRefusal}
use Rattle.numa_placed.specs.declared.spot.Spot.{Spot}
use Rattle.numa_placed.proofs.Edits.{move-refusal}
use Rattle.numa_placed.proofs.placed.Placed.move_page_within.Goals as goal

pub returns-in-Err-clause-err : goal.returns-in-Err-clause-err
returns-in-Err-clause-err c room rooms =
    let cause = λ (spot : Spot). move_cause c.args.space.now.machine c.args.space.now.allowed
    c.args.node (is_some (page_at c.args.space.now.ranges c.args.page)) spot in
    let here = λ (spot : Spot). room_cause room c.args.node spot in
    let after = changed_spots c.args.page 1 (stated_spot c.args.node) (spot_at c.args.self.now) in
    let first = ap cause (sym c.at-spot.ensures) ∙ c.in_ok-judge_move.ensures.cause in
    let second = ap here (sym c.at-spot.ensures) ∙ c.in_ok-judge_room.ensures.cause room rooms in
    let none : first_of (cause (spot_at c.args.self.now c.args.page))
    (here (spot_at c.args.self.now c.args.page)) ≡ None =
    ap (λ (o : Option MoveRefusal). first_of o (here (spot_at c.args.self.now c.args.page))) first
    ∙ second in
    subst (λ r. IfErr r (IsMoveRefusal (first_of (cause (spot_at c.args.self.now c.args.page))
    (here (spot_at c.args.self.now c.args.page))) after)) c.in-Err.is
    (move-refusal (first_of (cause (spot_at c.args.self.now c.args.page))
    (here (spot_at c.args.self.now c.args.page))) _ after
    c.edit_places-outcome.result c.move_outcome.result none
    (λ i. changed_spots c.args.page 1 (stated_spot c.args.node) (spot_at (c.self.view_is i)))
    c.edit_places-outcome.ensures.edit.lack c.move_outcome.ensures)
