use Rattle.numa_pools.proofs.LawLemmas.{all-taken}
use Rattle.numa_pools.proofs.laws.turns_are_used.Goals as goal

pub returns : goal.returns
returns c = all-taken
