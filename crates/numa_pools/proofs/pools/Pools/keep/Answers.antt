use Rattle.numa_pools.proofs.pools.Pools.keep.Goals as goal

pub returns : goal.returns
returns c = rw (← c.self.view_is) c.self.invariant
