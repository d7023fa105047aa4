use Rattle.numa_pool.proofs.Sparing.{tries_once}
use Rattle.numa_pool.proofs.laws.walk_is_sparing.Goals as goal

pub returns : goal.returns
returns c = tries_once
