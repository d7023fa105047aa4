use Rattle.numa_pools.proofs.LawLemmas.{resize-to-itself}
use Rattle.numa_pools.proofs.laws.resizes_to_what_is_there.Goals as goal

pub returns : goal.returns
returns c = resize-to-itself
