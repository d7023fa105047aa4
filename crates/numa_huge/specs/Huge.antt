-- Pages of 2 MiB of a process, and the pools that they come from. A page has the number of its
-- first address, counted in pages of 2 MiB.
use Rattle.std.specs.Prelude.{ℕ, zero, suc, ◌+◌, ◌==◌, ◌&&◌, Bool, true, false, not, Option, Some}
use Rattle.std.specs.Prelude.{None, List, is_some, nat_le, nat_lt, if◌then◌else◌}
use Rattle.std.specs.Option.{option_map}
use Rattle.numa_ranges.specs.Counts.{count_pages, range_count}
use Rattle.numa_ranges.specs.Maps.{any_page}
use Rattle.numa_ranges.specs.Runs.{in_pages, page_at}
use Rattle.numa_ranges.specs.declared.run.Run.{Run}
use Rattle.numa_placed.specs.Spots.{most_runs}
use Rattle.numa_requests.specs.declared.page_refusal.PlacedRefusal.{PlacedRefusal}
use Rattle.numa_requests.specs.declared.page_refusal.PlacedRefusal.TheVariants.{NoMemory}
use Rattle.numa_requests.specs.declared.page_refusal.PlacedRefusal.TheVariants.{TooManyRuns}
use Rattle.numa_pools.specs.Pools.{PoolCounts, freeing, giver, giving_back, no_pages, reserving}
use Rattle.numa_pools.specs.Pools.{taking}
use Rattle.numa_huge.specs.declared.spot.HugeSpot.{HugeSpot}
use Rattle.numa_huge.specs.declared.spot.HugeSpot.TheVariants.{Bare, Reserved, On}

-- ---- a page

-- whether it lies on a node
abbrev pub on_node : ℕ → Option HugeSpot → Bool
on_node node (Some (On other)) = other == node
on_node node (Some Bare) = false
on_node node (Some Reserved) = false
on_node node None = false

-- whether a free page is reserved for it
abbrev pub has_reserved : Option HugeSpot → Bool
has_reserved (Some Reserved) = true
has_reserved (Some Bare) = false
has_reserved (Some (On node)) = false
has_reserved None = false

-- the node that it lies on
abbrev pub node_of : Option HugeSpot → Option ℕ
node_of (Some (On node)) = Some node
node_of (Some Bare) = None
node_of (Some Reserved) = None
node_of None = None

abbrev pub same_huge : HugeSpot → HugeSpot → Bool
same_huge Bare Bare = true
same_huge Reserved Reserved = true
same_huge (On a) (On b) = a == b
same_huge _ _ = false

-- a page that was mapped, with a reservation or without one
abbrev pub fresh_spot : Bool → HugeSpot
fresh_spot true = Reserved
fresh_spot false = Bare

-- ---- all pages

-- the pools, and what is known of each page that is mapped as one of 2 MiB
pub record HugeLying : Type 0 where
  pub pools : PoolCounts
  pub spots : ℕ → Option HugeSpot

-- before the first such line: no page is mapped so, and the pools of these nodes have none
abbrev pub no_huge : ℕ → HugeLying
no_huge memory = record { pools = no_pages memory; spots = λ page. None }

-- as many as there are below address 2^47
abbrev pub most_pages : ℕ
most_pages = 67108864

-- how many of the pages from one on pass the test, and how many of all
abbrev pub pages_in : (Option HugeSpot → Bool) → (ℕ → Option HugeSpot) → ℕ → ℕ → ℕ
pages_in test spots first pages = count_pages (λ page. test (spots page)) first pages

abbrev pub pages_of : (Option HugeSpot → Bool) → (ℕ → Option HugeSpot) → ℕ
pages_of test spots = pages_in test spots 0 most_pages

-- whether one of the pages from one on is mapped so
abbrev pub has_huge : (ℕ → Option HugeSpot) → ℕ → ℕ → Bool
has_huge spots first pages = any_page (λ page. is_some (spots page)) first pages

-- the same is known of all pages of a span
abbrev pub with_span : ℕ → ℕ → Option HugeSpot → (ℕ → Option HugeSpot) → ℕ → Option HugeSpot
with_span first pages spot spots page = if in_pages first pages page then spot else spots page

-- pages of a span can be mapped: it has some, they are below address 2^47, and none is mapped so
-- yet
abbrev pub fits : (ℕ → Option HugeSpot) → ℕ → ℕ → Bool
fits spots first pages = not (pages == 0) && (nat_le (first + pages) most_pages
    && not (has_huge spots first pages))

-- ---- what calls lack

-- pages as those of a map
abbrev pub kept_page : (ℕ → Option HugeSpot) → ℕ → Option (ℕ × HugeSpot)
kept_page spots page = option_map (λ spot. (page, spot)) (spots page)

-- there are more runs of pages of which the same is known than there may be
abbrev pub too_many : (ℕ → Option HugeSpot) → Bool
too_many spots = nat_lt most_runs (range_count same_huge (kept_page spots))

-- memory lacks for the runs, or they are too many
abbrev pub lack_for : Bool → (ℕ → Option HugeSpot) → Option PlacedRefusal
lack_for starved after = if starved then Some NoMemory
    else if too_many after then Some TooManyRuns else None

-- ---- what is done with pages

-- a span is mapped
abbrev pub mapping : ℕ → ℕ → Bool → HugeLying → HugeLying
mapping first pages reserves huge = record {
  pools = if reserves then reserving huge.pools pages else huge.pools;
  spots = with_span first pages (Some (fresh_spot reserves)) huge.spots;
}

-- pages of the nodes below one become free, so many of each
unfoldable pub freeing_below : ℕ → (ℕ → ℕ) → PoolCounts → PoolCounts
freeing_below zero count pools = pools
freeing_below (suc node) count pools = freeing (freeing_below node count pools) node (count node)

-- the pages of a span are unmapped: those that lie somewhere become free, and then the
-- reservations of the others are given back
abbrev pub unmapping : ℕ → ℕ → HugeLying → HugeLying
unmapping first pages huge = record {
  pools = giving_back
      (freeing_below 256 (λ node. pages_in (on_node node) huge.spots first pages) huge.pools)
      (pages_in has_reserved huge.spots first pages);
  spots = with_span first pages None huge.spots;
}

-- the node that gives a page where it is touched first, if these nodes are asked
abbrev pub giver_for : HugeLying → ℕ → List ℕ → Option ℕ
giver_for huge page nodes = giver huge.pools nodes (has_reserved (huge.spots page))

-- it comes from a node, by its reservation, if it has one
abbrev pub with_page : ℕ → ℕ → HugeLying → HugeLying
with_page page node huge = record {
  pools = taking huge.pools node (has_reserved (huge.spots page));
  spots = with_span page 1 (Some (On node)) huge.spots;
}

-- a page was touched first, which a node gave, or none
abbrev pub faulting : Option ℕ → ℕ → HugeLying → HugeLying
faulting None page huge = huge
faulting (Some node) page huge = with_page page node huge

-- ---- pools that processes share

-- a child has the pages of its parent, untouched and without a reservation
abbrev pub bare_spot : Option HugeSpot → Option HugeSpot
bare_spot None = None
bare_spot (Some spot) = Some Bare

-- before its first page a process finds these pools
abbrev pub lent_none : PoolCounts → HugeLying
lent_none pools = record { pools = pools; spots = λ page. None }

-- all pages are gone: those that lie somewhere become free, and reservations are given back
abbrev pub all_gone : HugeLying → PoolCounts
all_gone huge = (unmapping 0 most_pages huge).pools

-- ---- as it is kept

-- the pools, and runs of pages of which the same is known
pub record HugePlaced : Type 0 where
  pub pools : PoolCounts
  pub runs : List (Run HugeSpot)

abbrev pub spot_in : Option (ℕ × HugeSpot) → Option HugeSpot
spot_in None = None
spot_in (Some p) = Some p.1

abbrev pub huge_at : List (Run HugeSpot) → ℕ → Option HugeSpot
huge_at runs page = spot_in (page_at runs page)

-- what is kept, as it is told
abbrev pub places_of : HugePlaced → HugeLying
places_of placed = record { pools = placed.pools; spots = huge_at placed.runs }

-- a span is mapped by these runs, of so many pages, which are reserved or aren't
abbrev pub mapped_by : ℕ → Bool → List (Run HugeSpot) → HugePlaced → HugePlaced
mapped_by pages reserves runs placed = record {
  pools = if reserves then reserving placed.pools pages else placed.pools;
  runs = runs;
}
