use Rattle.numa_host_script.proofs.Applied.{their-pages}
use Rattle.numa_host_script.proofs.running.RunningHost.pages_there.Goals as goal

pub returns : goal.returns
returns c = λ at runs.
    their-pages c.pages_of.result c.args.process at.lying (c.pages_of.ensures at.lying runs.lies)
