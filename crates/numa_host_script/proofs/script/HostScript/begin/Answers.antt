use Rattle.std.proofs.Common.{◌∙◌, Some, sym, subst}
use Rattle.numa_script.specs.declared.reply.Reply.TheVariants as reply
use Rattle.numa_host_script.specs.declared.running.RunningHost.{RunningHost}
use Rattle.numa_host_script.proofs.Taken.{BeginsAt, begun-already, begun-early, begun-now}
use Rattle.numa_host_script.proofs.Taken.{begun-starved}
use Rattle.numa_host_script.proofs.script.HostScript.begin.Goals as goal

pub returns-in-Some : goal.returns-in-Some
returns-in-Some c =
    rw c.in-Some.is
    (λ session stands.
    begun-already c.args.self.now.script c.args.self.now.limits c.in-Some.field-0.value session
    stands)

pub returns-in_default-fresh_machine : goal.returns-in_default-fresh_machine
returns-in_default-fresh_machine c =
    rw c.in_default.is
    (λ session stands.
    begun-early c.args.self.now.script c.args.self.now.limits session stands
    c.in_default-fresh_machine.ensures)

pub returns-in_default-copy : goal.returns-in_default-copy
returns-in_default-copy c =
    rw c.in_default.is
    (λ session stands.
    begun-starved c.args.self.now.script c.args.self.now.limits
    c.in-Some-fresh_machine.machine.now session stands c.in-Some-fresh_machine.ensures)

pub returns-in_default-new : goal.returns-in_default-new
returns-in_default-new c =
    rw c.in_default.is
    (λ session stands.
    begun-starved c.args.self.now.script c.args.self.now.limits
    c.in-Some-fresh_machine.machine.now session stands c.in-Some-fresh_machine.ensures)

pub returns-in_default-on_heap : goal.returns-in_default-on_heap
returns-in_default-on_heap c =
    rw c.in_default.is
    (λ session stands.
    begun-starved c.args.self.now.script c.args.self.now.limits
    c.in-Some-fresh_machine.machine.now session stands c.in-Some-fresh_machine.ensures)

pub returns : goal.returns
returns c =
    rw (c.in_default.is, c.replace.ensures.after)
    (λ session stands.
    subst (λ (r : RunningHost). BeginsAt c.args.self.now.script c.args.self.now.limits
    reply.HostReady c.args.self.now.script c.args.self.now.limits (Some r) session)
    (sym c.in-Ok-on_heap.ensures)
    (begun-now c.args.self.now.script c.args.self.now.limits c.in-Some-fresh_machine.machine.now
    (record { host = c.new-host.result; pages = c.in-Ok-new.pages }) session stands
    c.in-Some-fresh_machine.ensures (c.new-host.ensures.machine ∙ c.in-Ok.ensures)
    c.new-host.ensures.bounds c.new-host.ensures.stands c.in-Ok-new.ensures))
