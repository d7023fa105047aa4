use Rattle.numa_pool.proofs.Closing.{alone-counts}
use Rattle.numa_pool.proofs.alone.alone_by_counts.Goals as goal

pub returns : goal.returns
returns c = alone-counts
