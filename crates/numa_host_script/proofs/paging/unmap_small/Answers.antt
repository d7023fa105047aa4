use Rattle.numa_host_script.proofs.Unmapped.{answered, unmap-denied, unmap-done, unmap-plain}
use Rattle.numa_host_script.proofs.Unmapped.{unmap-refused}
use Rattle.std.proofs.Common.{Err, refl}
use Rattle.numa_requests.specs.declared.command.Command.TheVariants as own
use Rattle.numa_requests.specs.declared.host_command.HostCommand.TheVariants.{In}
use Rattle.numa_script.specs.declared.reply.Reply.TheVariants as reply
use Rattle.numa_host_script.proofs.Applied.{answered-so, applied, pages-stand}
use Rattle.numa_host_script.proofs.paging.unmap_small.Goals as goal

pub returns-in-Err-clause-runs : goal.returns-in-Err-clause-runs
returns-in-Err-clause-runs c =
    rw c.pages_reply.ensures
    (unmap-denied c.args.running.now c.args.process c.args.start c.args.length c.in-Err.refusal
    c.in-Err.ensures.forgets)

pub returns-in_default-clause-runs : goal.returns-in_default-clause-runs
returns-in_default-clause-runs c =
    unmap-plain c.args.running.now c.args.process c.args.start c.args.length _ c.obey_in.result
    (rw c.in_default.is at c.in-Ok.ensures.forgets)
    (answered c.args.running.now c.obey_in.new.host c.args.process
    (own.Unmap c.args.start c.args.length) c.obey_in.result c.obey_in.ensures)

pub returns-in-Ok-apply-clause-runs : goal.returns-in-Ok-apply-clause-runs
returns-in-Ok-apply-clause-runs c =
    unmap-done c.args.running.now c.args.process c.args.start c.args.length c.in-Some.after
    (rw c.in-Some.is at c.in-Ok.ensures.forgets) c.apply.new.self c.replace.new.pages c.version.result
    c.in-Ok-apply.ensures c.version.ensures.meaning c.replace.ensures

pub returns-in-Err-apply-clause-runs : goal.returns-in-Err-apply-clause-runs
returns-in-Err-apply-clause-runs c =
    unmap-refused c.args.running.now c.args.process c.args.start c.args.length c.in-Some.after
    (rw c.in-Some.is at c.in-Ok.ensures.forgets) c.apply.new.self c.in-Err-apply.refusal
    c.in-Err-apply.ensures

pub returns-in-Err-clause-host : goal.returns-in-Err-clause-host
returns-in-Err-clause-host c =
    rw c.pages_reply.ensures
    (pages-stand c.args.running.now.host c.args.process c.args.start c.args.length
    c.in-Err.refusal c.in-Err.ensures.lack)

pub returns-in_default-clause-host : goal.returns-in_default-clause-host
returns-in_default-clause-host c =
    answered-so c.args.running.now.host c.obey_in.new.host
    (In c.args.process (own.Unmap c.args.start c.args.length)) c.obey_in.result c.obey_in.ensures

pub returns-in-Ok-apply-clause-host : goal.returns-in-Ok-apply-clause-host
returns-in-Ok-apply-clause-host c = (c.version.ensures.meaning, c.in-Ok-apply.ensures)

pub returns-in-Err-apply-clause-host : goal.returns-in-Err-apply-clause-host
returns-in-Err-apply-clause-host c =
    applied c.args.running.now.host c.apply.new.self
    (In c.args.process (own.Unmap c.args.start c.args.length))
    (reply.HostRefused c.in-Err-apply.refusal) (Err c.in-Err-apply.refusal) c.in-Err-apply.ensures
    refl
