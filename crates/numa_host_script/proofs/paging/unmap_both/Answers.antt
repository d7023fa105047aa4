use Rattle.std.proofs.Common.{Err, refl}
use Rattle.numa_huge.specs.Huge.{places_of}
use Rattle.numa_requests.specs.declared.command.Command.TheVariants as own
use Rattle.numa_requests.specs.declared.host_command.HostCommand.TheVariants.{In}
use Rattle.numa_script.specs.declared.reply.Reply.TheVariants as reply
use Rattle.numa_host_script.proofs.Applied.{applied}
use Rattle.numa_host_script.proofs.UnmappedBoth.{unmaps-done, unmaps-refused}
use Rattle.numa_host_script.proofs.paging.unmap_both.Goals as goal

pub returns-in-Ok-clause-host : goal.returns-in-Ok-clause-host
returns-in-Ok-clause-host c = (c.version.ensures.meaning, c.in-Ok.ensures)

pub returns-in-Ok-clause-runs : goal.returns-in-Ok-clause-runs
returns-in-Ok-clause-runs c =
    unmaps-done c.args.running.now c.args.process c.args.start c.args.length c.args.small
    (places_of c.args.huge) c.runs.ensures.few c.apply.new.self c.settle.new.self
    c.replace_if.new.pages c.version.result c.in-Ok.ensures c.version.ensures.meaning
    c.settle.ensures c.replace_if.ensures.none c.replace_if.ensures.some

pub returns-in-Err-clause-host : goal.returns-in-Err-clause-host
returns-in-Err-clause-host c =
    applied c.args.running.now.host c.apply.new.self
    (In c.args.process (own.Unmap c.args.start c.args.length))
    (reply.HostRefused c.in-Err.refusal) (Err c.in-Err.refusal) c.in-Err.ensures refl

pub returns-in-Err-clause-runs : goal.returns-in-Err-clause-runs
returns-in-Err-clause-runs c =
    unmaps-refused c.args.running.now c.args.process c.args.start c.args.length c.args.small
    (places_of c.args.huge) c.runs.ensures.few c.apply.new.self c.in-Err.refusal c.in-Err.ensures
