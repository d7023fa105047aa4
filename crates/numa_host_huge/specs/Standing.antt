-- Which pages of 2 MiB of a host the kept ones stand for.
use Rattle.std.specs.Prelude.{◌≡◌, ℕ, true, Box, Option, Some, None, List, [], ◌∷◌, Result}
use Rattle.std.specs.Global.{Global}
use Rattle.std.specs.Option.{option_map}
use Rattle.numa_pools.specs.Pools.{PoolCounts}
use Rattle.numa_huge.specs.Tallies.{IsMemory}
use Rattle.numa_huge.specs.Huge.{HugePlaced, places_of}
use Rattle.numa_huge.specs.Moves.{HugeMemory, stayed}
use Rattle.numa_huge.specs.declared.pages.HugePages.{HugePages}
use Rattle.numa_requests.specs.declared.page_refusal.MoveRefusal.{MoveRefusal}
use Rattle.numa_requests.specs.declared.page_refusal.PlacedRefusal.{PlacedRefusal}
use Rattle.numa_space.specs.Standing.{SpaceState}
use Rattle.numa_page_state.specs.Huge.{huge_fault, huge_move, huge_page}
use Rattle.numa_page_state.specs.Lying.{ground_in}
use Rattle.numa_page_state.specs.Outcomes.{Lack}
use Rattle.numa_host_huge.specs.Sharing.{HugeHome, Sharing, begun_in, child_of, given_back}
use Rattle.numa_host_huge.specs.Sharing.{given_if, lent, memory_in, home_of}
use Rattle.numa_host_huge.specs.Kept.{HugeKept, IsAfter, has_place}
use Rattle.numa_host_huge.specs.declared.sharer.Sharer.{Sharer}

-- the pages of a process, whatever pools were lent to them last
abbrev pub LiesApart : HugePages → HugeHome → Type 0
LiesApart kept home = (pools : PoolCounts) × IsMemory kept (lent pools home)

pub record IsHome (kept : Sharer) (home : HugeHome) : Type 0 where
  pub id : kept.id ≡ home.id
  pub pages : LiesApart kept.pages.value home

abbrev pub AreHomes : List Sharer → List HugeHome → Type 0
AreHomes [] [] = Unit {0}
AreHomes (kept ∷ rest) (home ∷ homes) = IsHome kept home × AreHomes rest homes
AreHomes _ _ = ⊥

pub record HugeLies (kept : HugeKept) (at : Sharing) : Type 0 where
  pub pools : kept.pools ≡ at.pools
  pub homes : AreHomes kept.sharers at.homes

-- ---- what is prepared for a child

abbrev pub IsChildOf : ℕ → Option (Box HugePages Global) → Option HugeHome → Type 0
IsChildOf child None None = Unit {0}
IsChildOf child (Some pages) (Some parent) = LiesApart pages.value (child_of child parent)
IsChildOf child _ _ = ⊥

abbrev pub HasChild : HugeKept → ℕ → ℕ → Option (Box HugePages Global) → Type 0
HasChild kept parent child made = (at : Sharing) → HugeLies kept at
    → IsChildOf child made (home_of parent at.homes)

-- ---- what is prepared before a command

-- pages can be those of a process from now on: what all others have is kept, and there is a place
pub record CanBe (process : ℕ) (kept : HugeKept) (after : HugePlaced) : Type 0 where
  pub keeps : IsAfter process kept after
  pub place : has_place process kept.sharers ≡ true

-- and they can be those with which it begins, where it has none: nothing was done to them
pub record CanBegin (process : ℕ) (kept : HugeKept) (after : HugePages) : Type 0 where
  pub can : CanBe process kept after.places
  pub begins : IsMemory after (record {
    pages = places_of after.places;
    told = stayed;
    arrived = None;
  })

-- nothing is to be seen of what was prepared
abbrev pub IsSame : HugeKept → HugeKept → Type 0
IsSame old new = (at : Sharing) → HugeLies old at → HugeLies new at

-- the pages of a process are so from now on, as `memory` says it of those before
abbrev pub Becomes : ℕ → HugeKept → HugeKept → (HugeMemory → HugeMemory) → Type 0
Becomes process old new memory = (at : Sharing) → HugeLies old at
    → HugeLies new (given_back process (memory (begun_in process at)) at)

-- the same, where it has some
abbrev pub Changes : ℕ → HugeKept → HugeKept → (HugeMemory → HugeMemory) → Type 0
Changes process old new memory = (at : Sharing) → HugeLies old at
    → HugeLies new (given_if process (option_map memory (memory_in process at)) at)

-- ---- what is carried out at once

-- a page of 2 MiB of a process was touched as the definition says, by what it lacked
abbrev pub FaultsIn : ℕ → HugeKept → Result (Option ℕ) PlacedRefusal → HugeKept → ℕ → List ℕ
    → Type 0
FaultsIn process old result new page nodes = (at : Sharing) → HugeLies old at → (lack : Lack)
    × ((huge_fault lack page nodes (begun_in process at).pages).0 ≡ result)
    × HugeLies new (given_back process (record (begun_in process at) {
      pages = (huge_fault lack page nodes (begun_in process at).pages).1;
    }) at)

-- the page of an address moved so
abbrev pub MovesIn : ℕ → HugeKept → Result (Unit {0}) MoveRefusal → HugeKept → SpaceState → ℕ → ℕ
    → Type 0
MovesIn process old result new space address node = (at : Sharing) → HugeLies old at
    → (lack : Lack) × ((huge_move lack (ground_in space []) (huge_page address) node
    (begun_in process at)).0 ≡ result)
    × HugeLies new (given_back process (huge_move lack (ground_in space []) (huge_page address)
    node (begun_in process at)).1 at)
