-- Pages of 2 MiB of a host's processes, and the pools that all of them share.
use Rattle.std.specs.Prelude.{ℕ, ◌==◌, Bool, false, Option, Some, None, List, [], ◌∷◌, ◌++◌}
use Rattle.std.specs.Prelude.{if◌then◌else◌}
use Rattle.std.specs.Option.{option_map}
use Rattle.numa_pools.specs.Pools.{PoolCounts, no_pages}
use Rattle.numa_huge.specs.Huge.{HugeLying, all_gone, bare_spot, lent_none}
use Rattle.numa_huge.specs.Moves.{HugeArrival, HugeMemory, HugeTold, stayed}
use Rattle.numa_huge.specs.declared.spot.HugeSpot.{HugeSpot}
use Rattle.numa_page_state.specs.Huge.{huge_astray, huge_followed}
use Rattle.numa_page_state.specs.Lying.{Process}
use Rattle.numa_page_state.specs.declared.binding.Binding.{Binding}

-- a process that has mapped pages of 2 MiB: its number, what is known of each page, and what the
-- last move and the last first touches did to them
pub record HugeHome : Type 0 where
  pub id : ℕ
  pub spots : ℕ → Option HugeSpot
  pub told : HugeTold
  pub arrived : Option HugeArrival

-- the pools of the host, and the processes that have such pages, of which each is one
pub record Sharing : Type 0 where
  pub pools : PoolCounts
  pub homes : List HugeHome

-- before the first line about them
abbrev pub no_sharing : ℕ → Sharing
no_sharing memory = record { pools = no_pages memory; homes = [] }

-- ---- one process

-- while a process acts, its pages find the host's pools
abbrev pub lent : PoolCounts → HugeHome → HugeMemory
lent pools home = record {
  pages = record { pools = pools; spots = home.spots };
  told = home.told;
  arrived = home.arrived;
}

abbrev pub home_of : ℕ → List HugeHome → Option HugeHome
home_of process [] = None
home_of process (home ∷ homes) =
    if home.id == process then Some home else home_of process homes

-- the pages of a process while it acts; none where it has mapped none
abbrev pub memory_in : ℕ → Sharing → Option HugeMemory
memory_in process at = option_map (lent at.pools) (home_of process at.homes)

-- or those with which it begins
abbrev pub begun : PoolCounts → Option HugeMemory → HugeMemory
begun pools None = record { pages = lent_none pools; told = stayed; arrived = None }
begun pools (Some memory) = memory

abbrev pub begun_in : ℕ → Sharing → HugeMemory
begun_in process at = begun at.pools (memory_in process at)

-- what is kept of a process that acted
abbrev pub kept_of : ℕ → HugeMemory → HugeHome
kept_of process memory = record {
  id = process;
  spots = memory.pages.spots;
  told = memory.told;
  arrived = memory.arrived;
}

abbrev pub with_kept : ℕ → HugeMemory → List HugeHome → List HugeHome
with_kept process memory [] = kept_of process memory ∷ []
with_kept process memory (home ∷ homes) =
    if home.id == process then kept_of process memory ∷ homes
    else home ∷ with_kept process memory homes

-- its pages are so now; the pools that it leaves are the host's again
abbrev pub given_back : ℕ → HugeMemory → Sharing → Sharing
given_back process memory at = record {
  pools = memory.pages.pools;
  homes = with_kept process memory at.homes;
}

-- the same of one that may have none
abbrev pub given_if : ℕ → Option HugeMemory → Sharing → Sharing
given_if process None at = at
given_if process (Some memory) at = given_back process memory at

-- ---- pools

abbrev pub with_pools : PoolCounts → Sharing → Sharing
with_pools pools at = record at { pools = pools }

-- ---- processes come and go

-- a process that ends has no pages any more: they become free, and its reservations are given back
abbrev pub others_of : ℕ → List HugeHome → List HugeHome
others_of process [] = []
others_of process (home ∷ homes) =
    if home.id == process then homes else home ∷ others_of process homes

abbrev pub pools_left : PoolCounts → Option HugeMemory → PoolCounts
pools_left pools None = pools
pools_left pools (Some memory) = all_gone memory.pages

abbrev pub ended : ℕ → Sharing → Sharing
ended process at = record {
  pools = pools_left at.pools (memory_in process at);
  homes = others_of process at.homes;
}

-- a child has mapped what its parent has: nothing of it was touched, and nothing is reserved
abbrev pub child_of : ℕ → HugeHome → HugeHome
child_of child parent = record {
  id = child;
  spots = λ page. bare_spot (parent.spots page);
  told = stayed;
  arrived = None;
}

abbrev pub children : ℕ → Option HugeHome → List HugeHome
children child None = []
children child (Some parent) = child_of child parent ∷ []

abbrev pub forked : ℕ → ℕ → Sharing → Sharing
forked parent child at = record at {
  homes = at.homes ++ children child (home_of parent at.homes);
}

-- ---- moves

-- the pages of a process leave one set of nodes for another, if they are to
abbrev pub followed : ℕ → Bool → ℕ → ℕ → Sharing → Sharing
followed process follows old new at = given_if process
    (option_map (huge_followed follows old new) (memory_in process at)) at

-- how many pages the last move took along
abbrev pub moved_along : Option HugeMemory → ℕ
moved_along None = 0
moved_along (Some memory) = memory.told.moved

-- ---- mbind

-- a judged page lies astray
abbrev pub astray_in : Option HugeMemory → Process → Binding → Bool
astray_in None process said = false
astray_in (Some memory) process said = huge_astray process memory said
