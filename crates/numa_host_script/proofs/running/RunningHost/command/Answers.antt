use Rattle.numa_host_script.proofs.Applied.{told-plain}
use Rattle.numa_host_script.proofs.running.RunningHost.command.Goals as goal

pub returns-in-In-clause-host : goal.returns-in-In-clause-host
returns-in-In-clause-host c = rw c.in-In.is c.obeyed.ensures.host

pub returns-in-In-clause-runs : goal.returns-in-In-clause-runs
returns-in-In-clause-runs c = rw c.in-In.is c.obeyed.ensures.runs

pub returns-in_default-clause-runs : goal.returns-in_default-clause-runs
returns-in_default-clause-runs c =
    told-plain c.args.self.now c.obey_host.new.running c.obey_host.result c.args.command.now
    c.in_default.not-In c.obey_host.ensures.runs
