use Rattle.std.proofs.Common.{refl}
use Rattle.numa_core.proofs.KnownFrames.{known-raised}
use Rattle.numa_core.proofs.free_frames.Known.raise.Goals as goal

pub returns : goal.returns
returns c frames owners worker are low at within =
    known-raised frames owners c.args.frame c.args.place at within c.args.self.now _ worker are low
    refl c.meet.ensures.met c.meet.ensures.len
