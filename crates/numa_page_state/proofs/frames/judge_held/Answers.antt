use Rattle.std.proofs.Common.{is_some}
use Rattle.numa_ranges.specs.Runs.{page_at}
use Rattle.numa_placed.specs.Refusals.{move_cause}
use Rattle.numa_placed.specs.declared.spot.Spot.TheVariants.{Stated}
use Rattle.numa_page_state.specs.Outcomes.{frame_cause}
use Rattle.numa_page_state.proofs.HeldPages.{held-barred, held-then}
use Rattle.numa_page_state.proofs.frames.judge_held.Goals as goal

pub returns-in-Ok : goal.returns-in-Ok
returns-in-Ok c =
    held-then (move_cause c.args.space.now.machine c.args.space.now.allowed c.args.node
    (is_some (page_at c.args.space.now.ranges c.args.page)) (Stated c.args.from))
    (frame_cause c.args.node c.args.from) c.judge_frame.result c.in-Ok.ensures.cause
    c.judge_frame.ensures

pub returns-in-Err : goal.returns-in-Err
returns-in-Err c =
    held-barred (move_cause c.args.space.now.machine c.args.space.now.allowed c.args.node
    (is_some (page_at c.args.space.now.ranges c.args.page)) (Stated c.args.from))
    (frame_cause c.args.node c.args.from) c.in-Err.refusal c.in-Err.ensures.cause
