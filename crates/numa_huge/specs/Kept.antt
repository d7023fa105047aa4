-- What is kept of pages of 2 MiB, whatever was done.
use Rattle.std.specs.Prelude.{◌≡◌, ℕ, ◌+◌, ◌<◌, ◌≤◌, Bool, Option, Some, None, List, false}
use Rattle.numa_mask.specs.NodeSet.{has}
use Rattle.numa_ranges.specs.Runs.{page_at}
use Rattle.numa_ranges.specs.declared.run.Run.{Run}
use Rattle.numa_placed.specs.Shifts.{ArePages}
use Rattle.numa_pools.specs.Pools.{PoolCounts, free_at, total_at}
use Rattle.numa_ranges.specs.Ranges.{Ranges}
use Rattle.numa_placed.specs.Spots.{most_runs}
use Rattle.numa_huge.specs.Huge.{HugeLying, HugePlaced, has_reserved, huge_at, mapped_by}
use Rattle.numa_huge.specs.Huge.{most_pages, on_node, pages_of}
use Rattle.numa_huge.specs.Moves.{count_on}
use Rattle.numa_huge.specs.declared.spot.HugeSpot.{HugeSpot}
use Rattle.numa_huge.specs.declared.spot.HugeSpot.TheVariants.{Bare, Reserved, On}

-- if it lies somewhere, it does on one of 256 nodes
abbrev pub HasNode : HugeSpot → Type 0
HasNode Bare = Unit {0}
HasNode Reserved = Unit {0}
HasNode (On node) = node < 256

-- a page is kept with itself as its index
abbrev pub IsOwn : ℕ → Option (ℕ × HugeSpot) → Type 0
IsOwn page None = Unit {0}
IsOwn page (Some p) = (p.0 ≡ page) × (page < most_pages) × HasNode p.1

abbrev pub AreOwn : List (Run HugeSpot) → Type 0
AreOwn runs = (page : ℕ) → IsOwn page (page_at runs page)

-- how many pages of 2 MiB other processes have on each node, and how many are reserved for them.
-- These leave room on each node for the pages of one process more
pub record Others : Type 0 where
  pub on : ℕ → ℕ
  pub reserved : ℕ
  pub few : (node : ℕ) → node < 256 → on node + reserved ≤ 549755813888

-- the pages that are used lie on their nodes, and one is reserved for each page that says so,
-- beside those of others
pub record ArePooled (others : Others) (pools : PoolCounts) (spots : ℕ → Option HugeSpot) : Type 0
  where
    pub used : (node : ℕ) → node < 256 → total_at pools node
        ≡ free_at pools node + (pages_of (on_node node) spots + others.on node)
    pub reserved : pools.reserved ≡ pages_of has_reserved spots + others.reserved

pub record AreKept (others : Others) (pools : PoolCounts) (runs : List (Run HugeSpot)) : Type 0
  where
    pub own : AreOwn runs
    pub pooled : ArePooled others pools (huge_at runs)

-- pages are to leave for the nodes of their nodes: so many lie on each, and those on nodes outside
-- a set have none to go to
pub record AreLeaving (others : Others) (from : ℕ) (go : ℕ → ℕ) (counts : List ℕ)
    (pools : PoolCounts) (spots : ℕ → Option HugeSpot) : Type 0 where
  pub pooled : ArePooled others pools spots
  pub on : ArePages counts (count_on spots)
  pub nodes : (page node : ℕ) → spots page ≡ Some (On node) → node < 256
  pub stay : (node : ℕ) → node < 256 → has from node ≡ false → go node ≡ node

-- a change keeps what the process and all others have, whichever they are
abbrev pub Keeps : HugeLying → HugeLying → Type 0
Keeps old new = (others : Others) → ArePooled others old.pools old.spots
    → ArePooled others new.pools new.spots

-- pools have the pages of a process, beside those of others
abbrev pub HavePages : PoolCounts → (ℕ → Option HugeSpot) → Type 0
HavePages pools spots = (others : Others) × ArePooled others pools spots

-- pages may be mapped by these runs: what was kept stays so
pub record MayMapBy (old : HugePlaced) (pages : ℕ) (reserves : Bool) (map : Ranges HugeSpot) :
    Type 0 where
  pub kept : (others : Others) → AreKept others old.pools old.runs
      → AreKept others (mapped_by pages reserves map.runs old).pools map.runs
  pub most : map.max_ranges ≡ most_runs
