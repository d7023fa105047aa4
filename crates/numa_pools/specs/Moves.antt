-- Many pages that move from one node to another: one after the other, and at once, as by the code.
use Rattle.std.specs.Prelude.{ℕ, zero, suc, ◌+◌, ◌-◌, List, if◌then◌else◌, min, nat_lt, set}
use Rattle.std.specs.Prelude.{slice_index}
use Rattle.numa_pools.specs.Pools.{PoolCounts, can_move, free_at, freeing, moving_one, surplus_at}

-- so many pages, one after the other, each if it can
abbrev pub moving : PoolCounts → ℕ → ℕ → ℕ → PoolCounts
moving pools from to zero = pools
moving pools from to (suc pages) = moving (moving_one pools from to) from to pages

-- how many of them can move
abbrev pub movable : PoolCounts → ℕ → ℕ → ℕ → ℕ
movable pools from to zero = 0
movable pools from to (suc pages) =
    if can_move pools to then suc (movable (moving_one pools from to) from to pages) else 0

-- ---- first, free pages of the target serve

-- of so many pages how many are served by a target with so many free ones, where the node that they
-- leave has so much surplus, which ends, and so many free pages are not reserved
abbrev pub serving : ℕ → ℕ → ℕ → ℕ → ℕ
serving pages free surplus spare =
    if nat_lt surplus spare then min pages free else min (min pages free) spare

-- so many free pages of a node are used
abbrev pub using : PoolCounts → ℕ → ℕ → PoolCounts
using pools node pages = record pools {
  free = set pools.free node (free_at pools node - pages);
}

-- pages of a node become free, and as many free ones of the target are used
abbrev pub served : PoolCounts → ℕ → ℕ → ℕ → PoolCounts
served pools from to pages = using (freeing pools from pages) to pages

-- ---- then, pages of the total change nodes

-- so many of one node's count go to another
abbrev pub many_over : List ℕ → ℕ → ℕ → ℕ → List ℕ
many_over xs from to pages =
    set (set xs from (slice_index xs from - pages)) to (slice_index xs to + pages)

-- pages of the total, and surplus pages as far as there are
abbrev pub carried : PoolCounts → ℕ → ℕ → ℕ → PoolCounts
carried pools from to pages = record pools {
  total = many_over pools.total from to pages;
  surplus = many_over pools.surplus from to (min pages (surplus_at pools from));
}
