use Rattle.std.proofs.Common.{◌∙◌}
use Rattle.numa_host_script.proofs.running.RunningHost.pools.Goals as goal

pub returns : goal.returns
returns c = λ at runs. c.pools.ensures ∙ runs.lies.huge.pools
