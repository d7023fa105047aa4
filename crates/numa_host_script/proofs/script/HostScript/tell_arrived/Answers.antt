use Rattle.std.proofs.Common.{subst}
use Rattle.numa_host_script.specs.declared.running.RunningHost.{RunningHost}
use Rattle.numa_host_script.proofs.Written.{TellsArrived, written-arrived, written-early}
use Rattle.numa_host_script.proofs.script.HostScript.tell_arrived.Goals as goal

pub returns-in-Some : goal.returns-in-Some
returns-in-Some g c =
    rw c.in-Some.is
    (λ session stands.
    written-arrived g.W.Write.contents c.args.output.now c.say_arrived_in.new.output
    c.args.self.now.script c.args.self.now.limits c.in-Some.running.value c.args.process session
    (subst (λ (r : RunningHost). TellsArrived g.W.Write.contents c.args.output.now
    c.say_arrived_in.new.output r c.args.process) c.deref.ensures c.say_arrived_in.ensures)
    stands)

pub returns : goal.returns
returns g c =
    rw c.in_default.is
    (λ session stands.
    written-early g.W.Write.contents c.args.output.now c.write.new.output c.args.self.now.script
    c.write.new.self c.args.self.now.limits c.args.process c.write.result session
    c.write.ensures stands)
