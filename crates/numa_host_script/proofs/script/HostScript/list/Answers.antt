use Rattle.std.proofs.Common.{refl, Some, sym, subst, ◌∙◌}
use Rattle.numa_host_pages.specs.Standing.{HostLies}
use Rattle.numa_host_script.specs.Paging.{memory_at, pages_at}
use Rattle.numa_host_script.specs.Standing.{StandsIn}
use Rattle.numa_host_script.specs.declared.running.RunningHost.{RunningHost}
use Rattle.numa_host_script.proofs.Told.{huge-there, pages-there}
use Rattle.numa_host_script.proofs.Written.{listed-foreign, listed-nobody, listed-there}
use Rattle.numa_host_script.proofs.script.HostScript.list.Goals as goal

pub returns-in_default : goal.returns-in_default
returns-in_default g c =
    rw c.in_default.is
    (λ session stands.
    listed-foreign g.W.Write.contents c.args.output.now c.say_reply.new.output
    c.args.self.now.script c.args.self.now.limits c.args.process c.args.task session
    c.say_reply.ensures stands)

pub returns-in_default-process : goal.returns-in_default-process
returns-in_default-process g c =
    rw c.in-Some.is
    (λ session stands.
    listed-nobody g.W.Write.contents c.args.output.now c.say_reply-in_default-process.new.output
    c.args.self.now.script c.args.self.now.limits c.deref.result.now c.args.process
    c.args.task session c.say_reply-in_default-process.ensures c.in_default-process.ensures
    (subst (λ (r : RunningHost). StandsIn c.args.self.now.script c.args.self.now.limits
    (Some r) session) (sym c.deref.ensures) stands))

pub returns : goal.returns
returns g c =
    rw c.in-Some.is
    (λ session stands.
    listed-there g.W.Write.contents c.args.output.now c.list.new.output c.args.self.now.script
    c.args.self.now.limits c.deref.result.now c.args.process c.args.task
    c.in-Some-process.space.now session c.in-Some-process.ensures
    (λ at runs one there machine kept.
    c.list.ensures (pages_at at c.args.process).spots (memory_at at c.args.process) one.history
    one there machine refl kept
    (pages-there c.pages_of-pages.result c.args.process at.lying
    (c.pages_of-pages.ensures at.lying (subst (λ (r : RunningHost). HostLies r.pages at.lying)
    (c.deref.ensures ∙ sym c.deref-2.ensures) runs.lies)))
    (huge-there c.pages_of.result c.args.process at.lying.huge
    (c.pages_of.ensures.home at.lying.huge
    (subst (λ (r : RunningHost). HostLies r.pages at.lying)
    (c.deref.ensures ∙ sym c.deref-3.ensures) runs.lies).huge)))
    (subst (λ (r : RunningHost). StandsIn c.args.self.now.script c.args.self.now.limits (Some r)
    session) (sym c.deref.ensures) stands))
