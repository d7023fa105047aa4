use Rattle.std.proofs.Common.{arith}
use Rattle.numa_pools.proofs.Keeping.{frees-fit, totals-fit}
use Rattle.numa_pools.proofs.pools.Pools.unreserved.Goals as goal

pub sum_of-requires : goal.sum_of-requires
sum_of-requires c =
    omega (arith, totals-fit _ c.self.invariant, frees-fit _ c.self.invariant)

pub overflow_sub-result : goal.overflow_sub-result
overflow_sub-result c = omega (arith, c.self.invariant.reserved, c.sum_of.ensures)
