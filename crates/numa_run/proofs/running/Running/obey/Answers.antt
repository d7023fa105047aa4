use Rattle.numa_core.specs.Steps.{accept_answer, version_of}
use Rattle.numa_script.specs.Replies.{reply_to}
use Rattle.numa_run.proofs.Accepting.{accepted}
use Rattle.numa_run.proofs.Obeys.{obeyed-plainly}
use Rattle.numa_run.proofs.running.Running.obey.Goals as goal

pub returns-in-SetMems : goal.returns-in-SetMems
returns-in-SetMems c = rw c.in-SetMems.is c.mems.ensures

pub returns-in-Unmap : goal.returns-in-Unmap
returns-in-Unmap c = rw c.in-Unmap.is c.unmap.ensures

pub returns-in_default : goal.returns-in_default
returns-in_default c =
    rw c.accept_reply.ensures
    (obeyed-plainly c.args.self.now (record {
      core = c.accept.new.self;
      resident = c.args.self.now.resident;
      pages = c.args.self.now.pages;
      huge = c.args.self.now.huge;
    }) (reply_to (accept_answer (version_of c.accept.result))) c.args.command.now
    c.in_default.not-SetMems c.in_default.not-Unmap
    (accepted c.args.self.now c.args.command.now (version_of c.accept.result) c.accept.new.self
    c.accept.ensures.answer c.accept.ensures.setup))
