use Rattle.numa_pools.proofs.pools.Pools.move_page.Goals as goal

pub returns : goal.returns
returns c = c.move_pages-moved.ensures.pools
