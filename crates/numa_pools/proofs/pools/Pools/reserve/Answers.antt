use Rattle.std.proofs.Common.{◌+◌, arith, ap}
use Rattle.numa_pools.specs.Pools.{PoolCounts, reserving, unreserved}
use Rattle.numa_pools.specs.Shown.{shown}
use Rattle.numa_pools.proofs.Keeping.{frees-fit, kept-reserved, totals-fit}
use Rattle.numa_pools.proofs.pools.Pools.reserve.Goals as goal

pub overflow_add-self : goal.overflow_add-self
overflow_add-self c =
    omega (
      arith,
      c.requires,
      ap unreserved c.self.view_is,
      c.self.invariant.reserved,
      totals-fit _ c.self.invariant,
      frees-fit _ c.self.invariant,
    )

pub invariant_of-self : goal.invariant_of-self
invariant_of-self c =
    kept-reserved (shown c.self.inside) (c.self.inside.reserved + c.args.pages) c.self.invariant
    (omega (arith, c.requires, ap unreserved c.self.view_is, c.self.invariant.reserved))

pub returns : goal.returns
returns c = ap (λ (p : PoolCounts). reserving p c.args.pages) c.self.view_is
