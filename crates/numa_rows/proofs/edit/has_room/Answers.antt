-- The last chunk is the one that was looked at.
use Rattle.std.proofs.Common.{◌-◌, ◌/◌, ◌*◌, length, ap, arith}
use Rattle.std.proofs.lemmas.Bool.{ltb-true, ltb-false}
use Rattle.std.proofs.lemmas.List.{get_or_default}
use Rattle.numa_rows.proofs.edit.has_room.Goals as goal

pub returns-clause-room : goal.returns-clause-room
returns-clause-room g c h d =
    let chunk = c.index-chunks-count.result in
    let same = get_or_default c.args.chunks.now (length c.args.chunks.now - 1) chunk d
    (omega (arith, c.if-count-eq0.false)) in
    omega (
      arith,
      ltb-true c.len.result (c.most.result / 4 * 3) h,
      c.len.ensures,
      ap length c.index-chunks-count.is,
      ap length same,
      c.most.ensures.high,
    )

pub returns-clause-full : goal.returns-clause-full
returns-clause-full g c h some d =
    let chunk = c.index-chunks-count.result in
    let same = get_or_default c.args.chunks.now (length c.args.chunks.now - 1) chunk d
    (omega (arith, some)) in
    omega (
      arith,
      ltb-false c.len.result (c.most.result / 4 * 3) h,
      c.len.ensures,
      ap length c.index-chunks-count.is,
      ap length same,
      c.most.ensures.low,
    )
