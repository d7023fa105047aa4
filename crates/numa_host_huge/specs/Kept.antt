-- What is kept of the pools that processes share, whatever was done.
use Rattle.std.specs.Prelude.{◌≡◌, ◌≢◌, ℕ, ◌+◌, ◌==◌, ◌||◌, ◌<◌, ◌≤◌, Bool, false, Box, Option}
use Rattle.std.specs.Prelude.{Some, None, List, [], ◌∷◌, length, is_some, nat_lt, slice_index_or}
use Rattle.std.specs.Prelude.{if◌then◌else◌}
use Rattle.std.specs.Global.{Global}
use Rattle.std.specs.List.{position}
use Rattle.numa_pools.specs.Pools.{PoolCounts, free_at, total_at}
use Rattle.numa_huge.specs.Huge.{HugeLying, HugePlaced, has_reserved, huge_at, node_of, pages_of}
use Rattle.numa_huge.specs.Huge.{places_of}
use Rattle.numa_huge.specs.Kept.{Keeps}
use Rattle.numa_huge.specs.Moves.{count_on}
use Rattle.numa_huge.specs.declared.pages.HugePages.{HugePages}
use Rattle.numa_huge.specs.declared.spot.HugeSpot.{HugeSpot}
use Rattle.numa_host_huge.specs.declared.sharer.Sharer.{Sharer}

-- the pools, and the processes that have pages
pub record HugeKept : Type 0 where
  pub pools : PoolCounts
  pub sharers : List Sharer

-- what is known of the pages of a process
abbrev pub spots_of : Sharer → ℕ → Option HugeSpot
spots_of sharer = huge_at sharer.pages.value.places.runs

-- how many pages of all lie on a node, and how many are reserved for them
abbrev pub all_on : List Sharer → ℕ → ℕ
all_on [] node = 0
all_on (sharer ∷ sharers) node = count_on (spots_of sharer) node + all_on sharers node

abbrev pub all_reserved : List Sharer → ℕ
all_reserved [] = 0
all_reserved (sharer ∷ sharers) =
    pages_of has_reserved (spots_of sharer) + all_reserved sharers

-- the pages that are used lie on their nodes, and one is reserved for each page that says so, of
-- all processes together
pub record AreShared (pools : PoolCounts) (sharers : List Sharer) : Type 0 where
  pub used : (node : ℕ) → node < 256
      → total_at pools node ≡ free_at pools node + all_on sharers node
  pub reserved : pools.reserved ≡ all_reserved sharers
  pub few : length sharers ≤ 4096

-- the pages of a process; none where it has none
abbrev pub spots_in : ℕ → List Sharer → ℕ → Option HugeSpot
spots_in process [] = λ page. None
spots_in process (sharer ∷ sharers) =
    if sharer.id == process then spots_of sharer else spots_in process sharers

abbrev pub lying_of : ℕ → HugeKept → HugeLying
lying_of process kept = record {
  pools = kept.pools;
  spots = spots_in process kept.sharers;
}

-- pages came from those of a process, and all that the others have is as it was
abbrev pub IsAfter : ℕ → HugeKept → HugePlaced → Type 0
IsAfter process kept after = Keeps (lying_of process kept) (places_of after)

-- where a process is in the list; and whether there is a place for its pages
abbrev pub place_in : ℕ → List Sharer → Option ℕ
place_in process sharers = position (λ (s : Sharer). s.id == process) sharers

abbrev pub has_place : ℕ → List Sharer → Bool
has_place process sharers =
    is_some (place_in process sharers) || nat_lt (length sharers) 4096

-- no page of a process that begins lies anywhere, or has a reservation
pub record AreUntouched (spots : ℕ → Option HugeSpot) : Type 0 where
  pub nowhere : (page : ℕ) → node_of (spots page) ≡ None
  pub free : (page : ℕ) → has_reserved (spots page) ≡ false

-- pages were made for a child, for which there is a place
abbrev pub IsMade : Option (Box HugePages Global) → List Sharer → Type 0
IsMade None sharers = Unit {0}
IsMade (Some pages) sharers =
    AreUntouched (huge_at pages.value.places.runs) × (length sharers < 4096)

-- only the process at a place may be changed
pub record IsChangedAt (place : ℕ) (old new : List Sharer) : Type 0 where
  pub length : length new ≡ length old
  pub others : (other : ℕ) (d : Sharer) → other ≢ place
      → slice_index_or new other d ≡ slice_index_or old other d
  pub id : (d : Sharer) → (slice_index_or new place d).id ≡ (slice_index_or old place d).id

-- its pages are changed so
pub record IsChanged (place : ℕ) (old new : List Sharer) (change : HugePages → HugePages)
    : Type 0 where
  pub at : IsChangedAt place old new
  pub pages : (d : Sharer) → (slice_index_or new place d).pages.value
      ≡ change (slice_index_or old place d).pages.value

-- pools were lent to pages
abbrev pub with_lent : PoolCounts → HugePages → HugePages
with_lent pools pages = record pages { places = record pages.places { pools = pools } }
