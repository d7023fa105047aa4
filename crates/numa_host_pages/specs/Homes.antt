-- Where the pages of a host's processes lie, and what becomes of them.
use Rattle.std.specs.Prelude.{◌≡◌, ℕ, ◌==◌, Bool, not, Option, Some, None, List, [], ◌∷◌}
use Rattle.std.specs.Prelude.{◌++◌, filter, map, if◌then◌else◌, suc, false, true, Result}
use Rattle.numa_machine.specs.Machine.{Hardware}
use Rattle.numa_requests.specs.declared.page_refusal.PlacedRefusal.{PlacedRefusal}
use Rattle.numa_placed.specs.declared.spot.Spot.TheVariants.{Nowhere}
use Rattle.numa_pools.specs.Pools.{PoolCounts}
use Rattle.numa_huge.specs.Moves.{HugeMemory}
use Rattle.numa_host_huge.specs.Sharing.{Sharing, ended, followed, forked, memory_in, no_sharing}
use Rattle.numa_host_huge.specs.Sharing.{given_back as huge_back, with_pools as pools_given}
use Rattle.numa_page_state.specs.Lying.{Lying, OfNodes, nothing, still, with_spots}
use Rattle.numa_page_state.specs.Outcomes.{Enough, Lack, room_outcome}
use Rattle.numa_page_state.specs.Outcomes.{followed as small_followed}

-- how many more pages each node takes, once a line says so of one
abbrev pub Room : Type 0
Room = Option (ℕ → ℕ)

-- a process: its number, its group, the nodes that it is allowed, where its pages lie, once one was
-- touched or said to lie somewhere, and whether the host's last move was of them
pub record Home : Type 0 where
  pub id : ℕ
  pub group : ℕ
  pub allowed : ℕ
  pub lying : Option Lying
  pub along : Bool

-- how many more pages each node takes, whichever process they are of; whether pages follow the
-- allowed nodes; the processes, in the order in which they came to their groups; and their pages of
-- 2 MiB, with the pools
pub record HostLying : Type 0 where
  pub room : Room
  pub follows : Bool
  pub homes : List Home
  pub huge : Sharing

-- before the first process, where these nodes have memory; pages follow
abbrev pub empty_host : ℕ → HostLying
empty_host memory = record {
  room = None;
  follows = true;
  homes = [];
  huge = no_sharing memory;
}

-- ---- one process

-- while a process acts, its pages find the host's rooms, and follow as the host says
abbrev pub lent : Room → Bool → Lying → Lying
lent room follows lying = record lying { room = room; follows = follows }

abbrev pub lent_or_new : Room → Bool → Option Lying → Lying
lent_or_new room follows None = lent room follows nothing
lent_or_new room follows (Some lying) = lent room follows lying

-- where the pages of a process lie; nothing is kept of one that isn't there
abbrev pub pages_in : ℕ → List Home → Option Lying
pages_in process [] = None
pages_in process (home ∷ homes) =
    if home.id == process then home.lying else pages_in process homes

abbrev pub with_pages : ℕ → Option Lying → List Home → List Home
with_pages process lying [] = []
with_pages process lying (home ∷ homes) =
    if home.id == process then record home { lying = lying } ∷ homes
    else home ∷ with_pages process lying homes

-- the pages of a process as they are while it acts
abbrev pub pages_lent : ℕ → HostLying → Lying
pages_lent process at = lent_or_new at.room at.follows (pages_in process at.homes)

-- they lie so now; the room that is left is the host's again
abbrev pub given_back : ℕ → Lying → HostLying → HostLying
given_back process done at = record at {
  room = done.room;
  homes = with_pages process (Some done) at.homes;
}

-- the same of its pages of 2 MiB
abbrev pub memory_of : ℕ → HostLying → Option HugeMemory
memory_of process at = memory_in process at.huge

abbrev pub with_huge : ℕ → HugeMemory → HostLying → HostLying
with_huge process memory at = record at { huge = huge_back process memory at.huge }

abbrev pub with_pools : PoolCounts → HostLying → HostLying
with_pools pools at = record at { huge = pools_given pools at.huge }

-- a line says how many more pages a node takes
abbrev pub with_room : Hardware → ℕ → ℕ → HostLying → Result (Unit {0}) PlacedRefusal × HostLying
with_room machine node pages at = (
  (room_outcome machine node pages (record nothing { room = at.room })).0,
  record at {
    room = (room_outcome machine node pages (record nothing { room = at.room })).1.room;
  },
)

-- ---- processes come and go

abbrev pub other_homes : ℕ → List Home → List Home
other_homes process homes = filter (λ (home : Home). not (home.id == process)) homes

-- a process without pages comes to a group
abbrev pub with_born : ℕ → ℕ → ℕ → HostLying → HostLying
with_born process group nodes at = record at {
  homes = at.homes ++ record {
    id = process;
    group = group;
    allowed = nodes;
    lying = None;
    along = false;
  } ∷ [];
}

-- the rooms once pages are gone
abbrev pub room_without : Room → Option Lying → Room
room_without room None = room
room_without room (Some lying) =
    (with_spots (λ page. Nowhere) (record lying { room = room })).room

-- a process ends, and its pages give their room back, those of 2 MiB to the pools
abbrev pub with_ended : ℕ → HostLying → HostLying
with_ended process at = record at {
  room = room_without at.room (pages_in process at.homes);
  homes = other_homes process at.homes;
  huge = ended process at.huge;
}

-- a child comes to a group; of its pages of 2 MiB it has touched none
abbrev pub with_child : ℕ → ℕ → ℕ → ℕ → HostLying → HostLying
with_child parent child group nodes at = record (with_born child group nodes at) {
  huge = forked parent child at.huge;
}

-- ---- the host's last move

-- it was of no process
abbrev pub still_homes : List Home → List Home
still_homes homes = map (λ (home : Home). record home { along = false }) homes

abbrev pub all_still : HostLying → HostLying
all_still at = record at { homes = still_homes at.homes }

-- it was of one process
abbrev pub along_homes : ℕ → List Home → List Home
along_homes process homes =
    map (λ (home : Home). record home { along = home.id == process }) homes

abbrev pub taken_along : ℕ → HostLying → HostLying
taken_along process at = record at { homes = along_homes process at.homes }

-- a page of 2 MiB of one moved, and none of 4 KiB, where some are kept
abbrev pub rested : Option Lying → Option Lying
rested None = None
rested (Some lying) = Some (record lying { last = OfNodes still })

abbrev pub still_pages : ℕ → HostLying → HostLying
still_pages process at = record at {
  homes = with_pages process (rested (pages_in process at.homes)) at.homes;
}

-- ---- pages follow the nodes that their process is allowed

-- the pages of a process that was allowed some nodes and is allowed others, and the rooms then
abbrev pub pages_followed : Lack → Bool → ℕ → ℕ → Option Lying → Room → Option Lying × Room
pages_followed lack follows old new None room = (None, room)
pages_followed lack follows old new (Some lying) room =
    let done = small_followed lack old new [] (lent room follows lying) in (Some done, done.room)

-- the same of a process, which then went along; where it is allowed what it was, nothing changes
abbrev pub home_followed : Lack → Bool → ℕ → Home → Room → Home × Room
home_followed lack follows nodes home room =
    if home.allowed == nodes then (home, room)
    else (
      record home {
        allowed = nodes;
        lying = (pages_followed lack follows home.allowed nodes home.lying room).0;
        along = true;
      },
      (pages_followed lack follows home.allowed nodes home.lying room).1,
    )

-- the processes of a group, one after the other; `lacks` says of each place in the list what the
-- move of its pages lacked
abbrev pub homes_followed : (ℕ → Lack) → Bool → ℕ → ℕ → List Home → Room → List Home × Room
homes_followed lacks follows group nodes [] room = ([], room)
homes_followed lacks follows group nodes (home ∷ homes) room =
    if home.group == group then (
      (home_followed (lacks 0) follows nodes home room).0
          ∷ (homes_followed (λ k. lacks (suc k)) follows group nodes homes
          (home_followed (lacks 0) follows nodes home room).1).0,
      (homes_followed (λ k. lacks (suc k)) follows group nodes homes
          (home_followed (lacks 0) follows nodes home room).1).1,
    ) else (
      home ∷ (homes_followed (λ k. lacks (suc k)) follows group nodes homes room).0,
      (homes_followed (λ k. lacks (suc k)) follows group nodes homes room).1,
    )

-- the pages of a process alone, once the processes of a group are allowed these nodes
abbrev pub pages_told : Bool → ℕ → ℕ → ℕ → List Home → Option Lying
pages_told follows group nodes process [] = None
pages_told follows group nodes process (home ∷ homes) =
    if home.id == process then
    if home.group == group then (home_followed Enough follows nodes home None).0.lying
    else home.lying
    else pages_told follows group nodes process homes

-- pages of 2 MiB of a process that was allowed some nodes and is allowed others; where these are
-- the same, nothing changes
abbrev pub huge_moved : Bool → ℕ → ℕ → ℕ → Sharing → Sharing
huge_moved follows process old new huge =
    if old == new then huge else followed process follows old new huge

-- those of the processes of a group, one after the other
abbrev pub huge_of_group : Bool → ℕ → ℕ → List Home → Sharing → Sharing
huge_of_group follows group nodes [] huge = huge
huge_of_group follows group nodes (home ∷ homes) huge =
    huge_of_group follows group nodes homes (if home.group == group
    then huge_moved follows home.id home.allowed nodes huge else huge)

abbrev pub group_followed : (ℕ → Lack) → ℕ → ℕ → HostLying → HostLying
group_followed lacks group nodes at = record at {
  room = (homes_followed lacks at.follows group nodes at.homes at.room).1;
  homes = (homes_followed lacks at.follows group nodes at.homes at.room).0;
  huge = huge_of_group at.follows group nodes at.homes at.huge;
}

-- groups one after the other, each with the nodes that it allows; `lacks` says it of each place
-- among the groups
abbrev pub followed_each : (ℕ → ℕ → Lack) → (ℕ → ℕ) → List ℕ → HostLying → HostLying
followed_each lacks nodes [] at = at
followed_each lacks nodes (group ∷ groups) at = followed_each (λ k. lacks (suc k)) nodes groups
    (group_followed (lacks 0) group (nodes group) at)

-- groups one after the other, each with the nodes that it allows
abbrev pub FollowEach : (ℕ → ℕ) → List ℕ → HostLying → HostLying → Type 0
FollowEach nodes [] at after = after ≡ at
FollowEach nodes (group ∷ groups) at after = (lacks : ℕ → Lack)
    × FollowEach nodes groups (group_followed lacks group (nodes group) at) after

-- a process comes to another group, behind all that are there, and goes along alone
abbrev pub with_attached : Lack → ℕ → ℕ → ℕ → ℕ → HostLying → HostLying
with_attached lack process group old new at = record at {
  room = (home_followed lack at.follows new (record {
    id = process;
    group = group;
    allowed = old;
    lying = pages_in process at.homes;
    along = false;
  }) at.room).1;
  huge = huge_moved at.follows process old new at.huge;
  homes = other_homes process (all_still at).homes ++ (home_followed lack at.follows new (record {
    id = process;
    group = group;
    allowed = old;
    lying = pages_in process at.homes;
    along = false;
  }) at.room).0 ∷ [];
}
