-- What all pools keep.
use Rattle.std.specs.Prelude.{◌≡◌, ◌<◌, ◌≤◌, ℕ, length, sum}
use Rattle.numa_pools.specs.Pools.{PoolCounts, free_at, most, total_at}

pub record AreKept (pools : PoolCounts) : Type 0 where
  pub totals : length pools.total ≡ 256
  pub frees : length pools.free ≡ 256
  pub surpluses : length pools.surplus ≡ 256
  -- on each node
  pub within : (node : ℕ) → free_at pools node ≤ total_at pools node
  pub few : (node : ℕ) → total_at pools node ≤ most
  -- on all nodes together
  pub reserved : pools.reserved ≤ sum pools.free
  pub surplus : sum pools.surplus ≤ sum pools.total
  pub grow : pools.grow < 256
  pub shrink : pools.shrink < 256
