use Rattle.std.proofs.Common.{◌-◌, ap, arith, ◌∙◌}
use Rattle.numa_pools.specs.Pools.{PoolCounts, end_surplus}
use Rattle.numa_pools.specs.Shown.{shown}
use Rattle.numa_pools.proofs.Keeping.{kept-reserved}
use Rattle.numa_pools.proofs.pools.Pools.give_back.Goals as goal

pub overflow_sub-self : goal.overflow_sub-self
overflow_sub-self c =
    omega (arith, c.requires, ap (λ (p : PoolCounts). p.reserved) c.self.view_is)

pub invariant_of-self : goal.invariant_of-self
invariant_of-self c =
    kept-reserved (shown c.self.inside) (c.self.inside.reserved - c.args.pages) c.self.invariant
    (omega (arith, c.self.invariant.reserved))

pub end_surplus-requires : goal.end_surplus-requires
end_surplus-requires c =
    omega (
      arith,
      c.self.invariant.reserved,
      c.requires,
      ap (λ (p : PoolCounts). p.reserved) c.self.view_is,
    )

pub returns : goal.returns
returns c =
    c.end_surplus.ensures
    ∙ ap (λ (p : PoolCounts). end_surplus (record p { reserved = p.reserved - c.args.pages })
    c.args.pages) c.self.view_is
