use Rattle.numa_pools.proofs.Using.{movable-all}
use Rattle.numa_pools.proofs.laws.pages_can_move.Goals as goal

pub returns : goal.returns
returns c = movable-all
