use Rattle.std.proofs.Common.{refl}
use Rattle.numa_run.proofs.Doing.{touches-won, touches-nothing}
use Rattle.numa_run.proofs.running.Running.touch.Goals as goal

pub returns-in-Ok : goal.returns-in-Ok
returns-in-Ok c =
    touches-won c.args.self.now
    (record c.args.self.now { core = c.touch.new.self }) c.keep.new.self
    c.args.worker c.args.request c.touch.result c.in-Ok.placement c.keep.result
    c.touch.ensures.answer c.touch.ensures.setup refl (refl, refl) c.in-Ok.ensures c.keep.ensures

pub returns-in-Err : goal.returns-in-Err
returns-in-Err c =
    rw c.in-Err.ensures.1
    (touches-nothing c.args.self.now
    (record c.args.self.now { core = c.touch.new.self }) c.args.worker
    c.args.request c.touch.result
    c.touch.ensures.answer c.touch.ensures.setup refl (refl, refl) c.in-Err.ensures.0)
