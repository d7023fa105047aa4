-- What contracts see of pools.
use Rattle.numa_pools.specs.declared.pools.Pools.TheInside.{Inside}
use Rattle.numa_pools.specs.Pools.{PoolCounts}

abbrev pub shown : Inside → PoolCounts
shown p = record {
  memory = p.memory;
  total = p.total;
  free = p.free;
  surplus = p.surplus;
  reserved = p.reserved;
  grow = p.grow;
  shrink = p.shrink;
}
