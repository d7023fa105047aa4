use Rattle.numa_requests.specs.declared.host_command.HostCommand.TheVariants.{In}
use Rattle.numa_host_script.proofs.Applied.{answered-so}
use Rattle.numa_host_script.proofs.Unmapped.{answered, obeyed-plain}
use Rattle.numa_host_script.proofs.paging.obeyed.Goals as goal

pub returns-in-Unmap-clause-host : goal.returns-in-Unmap-clause-host
returns-in-Unmap-clause-host c = rw c.in-Unmap.is c.unmap.ensures.host

pub returns-in-Unmap-clause-runs : goal.returns-in-Unmap-clause-runs
returns-in-Unmap-clause-runs c = rw c.in-Unmap.is c.unmap.ensures.runs

pub returns-in_default-clause-host : goal.returns-in_default-clause-host
returns-in_default-clause-host c =
    answered-so c.args.running.now.host c.obey_in.new.host
    (In c.args.process c.args.command.now) c.obey_in.result c.obey_in.ensures

pub returns-in_default-clause-runs : goal.returns-in_default-clause-runs
returns-in_default-clause-runs c =
    obeyed-plain c.args.running.now _ c.obey_in.result c.args.process c.args.command.now
    c.in_default.not-Unmap
    (answered c.args.running.now c.obey_in.new.host c.args.process c.args.command.now
    c.obey_in.result c.obey_in.ensures)
