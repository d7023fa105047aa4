use Rattle.numa_core.specs.Steps.{version_of}
use Rattle.numa_run.proofs.Accepting.{accepted}
use Rattle.numa_run.proofs.running.Running.accept.Goals as goal

pub returns : goal.returns
returns c =
    rw c.accept_reply.ensures
    (accepted c.args.self.now c.args.command.now (version_of c.accept.result) c.accept.new.self
    c.accept.ensures.answer c.accept.ensures.setup)
