use Rattle.std.proofs.Common.{arith}
use Rattle.numa_pools.proofs.Keeping.{frees-fit, totals-fit}
use Rattle.numa_pools.proofs.pools.Pools.kept.Goals as goal

pub sum_of-requires : goal.sum_of-requires
sum_of-requires c = omega (arith, totals-fit _ c.self.invariant)

pub sum_of-requires-2 : goal.sum_of-requires-2
sum_of-requires-2 c =
    omega (arith, totals-fit _ c.self.invariant, frees-fit _ c.self.invariant)

pub overflow_sub-result : goal.overflow_sub-result
overflow_sub-result c =
    omega (arith, frees-fit _ c.self.invariant, c.sum_of.ensures, c.sum_of-2.ensures)

pub overflow_add-result : goal.overflow_add-result
overflow_add-result c =
    omega (
      arith,
      totals-fit _ c.self.invariant,
      frees-fit _ c.self.invariant,
      c.self.invariant.reserved,
      c.sum_of.ensures,
      c.sum_of-2.ensures,
    )

pub returns-clause-at_most : goal.returns-clause-at_most
returns-clause-at_most c =
    omega (
      arith,
      totals-fit _ c.self.invariant,
      frees-fit _ c.self.invariant,
      c.self.invariant.reserved,
      c.sum_of.ensures,
      c.sum_of-2.ensures,
    )
