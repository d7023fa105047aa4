-- The text of the answer to `pool`: how many pages of 2 MiB each node has, and how many are
-- reserved.
use Rattle.std.specs.Prelude.{ℕ, ◌==◌, List, [], ◌++◌, codes, decimal, if◌then◌else◌}
use Rattle.std.specs.List.{flat_map, range_with_len}
use Rattle.numa_mask.specs.NodeSet.{has}
use Rattle.numa_pools.specs.Pools.{PoolCounts, free_at, surplus_at, total_at}

-- `+1`, where some are surplus
abbrev pub surplus_text : ℕ → List ℕ
surplus_text pages = if pages == 0 then [] else codes "+" ++ decimal pages

-- ` N0=3/4+1`: those that are free, of all
abbrev pub pool_text : ℕ → ℕ → ℕ → ℕ → List ℕ
pool_text node free total surplus = codes " N" ++ decimal node ++ codes "=" ++ decimal free
    ++ codes "/" ++ decimal total ++ surplus_text surplus

-- each node with memory, the lowest first
unfoldable pub pools_text : PoolCounts → List ℕ
pools_text pools = flat_map (λ node. if has pools.memory node
    then pool_text node (free_at pools node) (total_at pools node) (surplus_at pools node) else [])
    (range_with_len 0 256)

-- `pool N0=3/3 N1=2/2 reserved 0`
abbrev pub pools_line : PoolCounts → List ℕ
pools_line pools = codes "pool" ++ pools_text pools ++ codes " reserved "
    ++ decimal pools.reserved ++ codes "\n"
