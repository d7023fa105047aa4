use Rattle.numa_pool.proofs.Whole.{by_these}
use Rattle.numa_pool.proofs.laws.all_seats_made_all_steps.Goals as goal

pub returns : goal.returns
returns c = by_these
