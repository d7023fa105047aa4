use Rattle.std.proofs.Common.{Some, sym, subst, ◌∙◌}
use Rattle.numa_host_script.specs.Standing.{StandsIn}
use Rattle.numa_host_script.specs.declared.running.RunningHost.{RunningHost}
use Rattle.numa_host_script.proofs.Written.{TellsLast, moved-foreign, moved-nobody, moved-there}
use Rattle.numa_host_script.proofs.script.HostScript.tell_last.Goals as goal

pub returns-in_default : goal.returns-in_default
returns-in_default g c =
    rw c.in_default.is
    (λ session stands.
    moved-foreign g.W.Write.contents c.args.output.now c.say_reply.new.output
    c.args.self.now.script c.args.self.now.limits c.args.process session c.say_reply.ensures
    stands)

pub returns-in_default-process : goal.returns-in_default-process
returns-in_default-process g c =
    rw c.in-Some.is
    (λ session stands.
    moved-nobody g.W.Write.contents c.args.output.now
    c.say_reply-in_default-process.new.output c.args.self.now.script c.args.self.now.limits
    c.deref.result.now c.args.process session c.say_reply-in_default-process.ensures
    c.in_default-process.ensures
    (subst (λ (r : RunningHost). StandsIn c.args.self.now.script c.args.self.now.limits
    (Some r) session) (sym c.deref.ensures) stands))

pub returns : goal.returns
returns g c =
    rw c.in-Some.is
    (λ session stands.
    moved-there g.W.Write.contents c.args.output.now c.say_last_in.new.output
    c.args.self.now.script c.args.self.now.limits c.deref.result.now c.args.process
    c.in-Some-process.field-0.now session c.in-Some-process.ensures
    (subst (λ (r : RunningHost). TellsLast g.W.Write.contents c.args.output.now
    c.say_last_in.new.output r c.args.process) (c.deref-2.ensures ∙ sym c.deref.ensures)
    c.say_last_in.ensures) (subst (λ (r : RunningHost). StandsIn c.args.self.now.script
    c.args.self.now.limits
    (Some r) session) (sym c.deref.ensures) stands))
