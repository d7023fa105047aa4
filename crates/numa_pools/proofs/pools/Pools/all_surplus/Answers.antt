use Rattle.std.proofs.Common.{arith}
use Rattle.numa_pools.proofs.Keeping.{totals-fit}
use Rattle.numa_pools.proofs.pools.Pools.all_surplus.Goals as goal

pub sum_of-requires : goal.sum_of-requires
sum_of-requires c = omega (arith, totals-fit _ c.self.invariant, c.self.invariant.surplus)
