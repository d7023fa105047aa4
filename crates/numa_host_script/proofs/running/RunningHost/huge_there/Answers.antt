use Rattle.numa_host_script.proofs.Told.{huge-kept}
use Rattle.numa_host_script.proofs.running.RunningHost.huge_there.Goals as goal

pub returns : goal.returns
returns c = λ at runs.
    huge-kept c.pages_of.result c.args.process at.lying.huge
    (c.pages_of.ensures.home at.lying.huge runs.lies.huge)
