use Rattle.numa_pool.proofs.Marking.{opens}
use Rattle.numa_pool.proofs.steps.opening.Goals as goal

pub vacant-requires : goal.vacant-requires
vacant-requires c =
    opens c.args.frames.now.items c.args.bits.now c.requires.bits.0 c.requires.bits.1
