use Rattle.numa_host_script.proofs.Shared.{other-home}
use Rattle.numa_host_script.proofs.laws.others_keep.Goals as goal

pub returns : goal.returns
returns c = λ process other memory at far. other-home process other memory at.huge.homes far
