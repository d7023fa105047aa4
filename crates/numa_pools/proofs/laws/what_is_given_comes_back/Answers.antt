use Rattle.numa_pools.proofs.LawLemmas.{free-taken, give-back-all}
use Rattle.numa_pools.proofs.laws.what_is_given_comes_back.Goals as goal

pub returns-clause-reserved : goal.returns-clause-reserved
returns-clause-reserved c = give-back-all

pub returns-clause-taken : goal.returns-clause-taken
returns-clause-taken c = free-taken
