use Rattle.numa_pools.proofs.Asked.{resize-gives}
use Rattle.numa_pools.proofs.laws.a_resize_gives_what_is_asked.Goals as goal

pub returns : goal.returns
returns c = resize-gives
