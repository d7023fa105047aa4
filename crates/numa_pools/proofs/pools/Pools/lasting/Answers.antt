use Rattle.std.proofs.Common.{arith}
use Rattle.numa_pools.proofs.Keeping.{totals-fit}
use Rattle.numa_pools.proofs.pools.Pools.lasting.Goals as goal

pub sum_of-requires : goal.sum_of-requires
sum_of-requires c = omega (arith, totals-fit _ c.self.invariant)

pub sum_of-requires-2 : goal.sum_of-requires-2
sum_of-requires-2 c = omega (arith, totals-fit _ c.self.invariant, c.self.invariant.surplus)

pub overflow_sub-result : goal.overflow_sub-result
overflow_sub-result c =
    omega (arith, c.self.invariant.surplus, c.sum_of.ensures, c.sum_of-2.ensures)

pub returns-clause-at_most : goal.returns-clause-at_most
returns-clause-at_most c = omega (arith, totals-fit _ c.self.invariant, c.sum_of.ensures)
