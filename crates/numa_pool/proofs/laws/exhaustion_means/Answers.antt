use Rattle.numa_pool.proofs.Winning.{all-found}
use Rattle.numa_pool.proofs.laws.exhaustion_means.Goals as goal

pub returns : goal.returns
returns c = λ frames nodes es walk. all-found frames es nodes walk.1
