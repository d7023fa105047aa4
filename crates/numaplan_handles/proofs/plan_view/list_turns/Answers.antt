use Rattle.std.proofs.Common.{◌<◌, ◌∙◌, length, arith, length-set}
use Rattle.numaplan_handles.proofs.Turned.{is_told, rest_more, turned_more}
use Rattle.numaplan_handles.proofs.plan_view.list_turns.Goals as goal

pub unreachable-requires : goal.unreachable-requires
unreachable-requires c = is_told c.args.plan.now c.args.task c.loop-place.place
    (omega (arith, c.run_count-count.ensures.count, c.loop-place-test.true)) c.in_default.ensures

pub loop-place-preserved : goal.loop-place-preserved
loop-place-preserved c =
    let within : c.loop-place.place < length c.loop-place.room =
    omega (arith, c.loop-place.invariant.long, c.if-room-count.false, c.loop-place-test.true) in
    record {
      long = length-set _ _ _ ∙ c.loop-place.invariant.long;
      told = turned_more c.args.plan.now c.args.task c.loop-place.place c.loop-place.room
          c.in-Some.turns within c.loop-place.invariant.told c.in-Some.ensures;
      rest = rest_more c.loop-place.place c.args.room.now c.loop-place.room c.in-Some.turns within
          c.loop-place.invariant.rest;
    }
