use Rattle.std.proofs.Common.{Err, refl}
use Rattle.numa_script.specs.declared.reply.Reply.TheVariants as reply
use Rattle.numa_host_script.proofs.Applied.{applied}
use Rattle.numa_host_script.proofs.Obeyed.{carried, denied}
use Rattle.numa_host_script.proofs.taking.obey_host.Goals as goal

pub returns-in-Ok-clause-runs : goal.returns-in-Ok-clause-runs
returns-in-Ok-clause-runs c = carried
    (record { host = c.args.running.now.host; pages = c.args.running.now.pages })
    (record { host = c.obey.new.host; pages = c.obey.new.pages }) c.args.command.now
    c.version.result c.in-Ok.ensures c.version.ensures.meaning

pub returns-in-Err-clause-runs : goal.returns-in-Err-clause-runs
returns-in-Err-clause-runs c = denied
    (record { host = c.args.running.now.host; pages = c.args.running.now.pages })
    (record { host = c.obey.new.host; pages = c.obey.new.pages }) c.args.command.now
    c.in-Err.refusal c.in-Err.ensures

pub returns-in-Ok-clause-host : goal.returns-in-Ok-clause-host
returns-in-Ok-clause-host c = (c.version.ensures.meaning, c.in-Ok.ensures.applied)

pub returns-in-Err-clause-host : goal.returns-in-Err-clause-host
returns-in-Err-clause-host c =
    applied c.args.running.now.host c.obey.new.host c.args.command.now
    (reply.HostRefused c.in-Err.refusal) (Err c.in-Err.refusal) c.in-Err.ensures.applied refl
