use Rattle.numa_pool.proofs.Winning.{walks-one, walks-more, walks-won}
use Rattle.numa_pool.proofs.laws.walks_follow.Goals as goal

pub returns-clause-one : goal.returns-clause-one
returns-clause-one c = walks-one

pub returns-clause-more : goal.returns-clause-more
returns-clause-more c = walks-more

pub returns-clause-won : goal.returns-clause-won
returns-clause-won c = walks-won
