use Rattle.numa_pool.proofs.Winning.{wins-found}
use Rattle.numa_pool.proofs.laws.walk_wins_what_it_found.Goals as goal

pub returns : goal.returns
returns c = wins-found
