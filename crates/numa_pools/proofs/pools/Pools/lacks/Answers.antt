use Rattle.std.proofs.Common.{arith}
use Rattle.numa_pools.proofs.Keeping.{frees-fit, totals-fit}
use Rattle.numa_pools.proofs.pools.Pools.lacks.Goals as goal

pub are_fewer_on-requires : goal.are_fewer_on-requires
are_fewer_on-requires c =
    omega (arith, totals-fit _ c.self.invariant, frees-fit _ c.self.invariant)
