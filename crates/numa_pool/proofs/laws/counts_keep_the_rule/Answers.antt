use Rattle.numa_pool.proofs.Ruling.{means}
use Rattle.numa_pool.proofs.laws.counts_keep_the_rule.Goals as goal

pub returns : goal.returns
returns c = means
