use Rattle.std.proofs.Common.{subst}
use Rattle.numa_run.specs.PageLines.{arrived_text}
use Rattle.numa_run.proofs.Taking.{Tells, arrived-unready, arrived-written}
use Rattle.numa_run.proofs.script.Script.tell_arrived.Goals as goal

pub returns-in_default : goal.returns-in_default
returns-in_default g c =
    rw c.in_default.is
    (arrived-unready g.W.Write.contents c.args.output.now c.say_reply.new.output
    c.args.self.now.settings c.say_reply.ensures)

pub returns : goal.returns
returns g c =
    rw c.in-Some.is
    (arrived-written g.W.Write.contents c.args.output.now c.tell_arrived.new.output
    c.in-Some.running.value (subst (Tells g.W.Write.contents c.args.output.now
    c.tell_arrived.new.output (λ machine state. arrived_text state)) c.deref.ensures
    c.tell_arrived.ensures))
