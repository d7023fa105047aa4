use Rattle.std.proofs.Common.{◌≡◌, ◌<◌, arith, slice_index, length, refl, ◌∙◌}
use Rattle.numa_core.proofs.InARow.{any_default}
use Rattle.numa_core.proofs.KnownFrames.{known-lowered}
use Rattle.numa_core.proofs.free_frames.Known.lower.Goals as goal

pub returns : goal.returns
returns c frames owners are at within =
    let lowest = c.args.self.now.lowest in
    let short : c.args.frame.node < length lowest.items = omega (
      arith,
      c.requires.node,
      lowest.ok.0,
    ) in
    let read : c.index.result.now ≡ slice_index lowest.items c.args.frame.node =
    c.index.ensures ∙ any_default lowest.items c.args.frame.node c.index.result.now 0 short in
    known-lowered frames owners c.args.frame c.args.place at within c.args.self.now _ c.min.result
    are (omega (arith, c.min.ensures, read)) (omega (arith, c.min.ensures)) refl
    c.forget.ensures.met c.forget.ensures.len
