-- Pages of 2 MiB of which each was touched, and where their parts of 4 KiB lie.
use Rattle.std.specs.Prelude.{◌≡◌, ℕ, ◌*◌, ◌/◌, ◌<◌, ◌^◌, Bool, Option, Some, None, List, []}
use Rattle.std.specs.Prelude.{◌∷◌, ◌++◌}
use Rattle.std.specs.Prelude.{◌+◌, ◌⊎◌, ◌==◌, true, if◌then◌else◌, length, min, nat_lt, slice_get}
use Rattle.std.specs.Prelude.{slice_index}
use Rattle.std.specs.Borrow.{Bor}
use Rattle.std.specs.Option.{option_map, option_or}
use Rattle.numa_answers.specs.declared.pooled.FromPools.{FromPools}
use Rattle.numa_huge.specs.Huge.{HugeLying, HugePlaced, huge_at, node_of, on_node, pages_in}
use Rattle.numa_huge.specs.Huge.{kept_page, same_huge}
use Rattle.numa_huge.specs.Moves.{HugeMemory, HugeTouch, touch_from, touched_pages}
use Rattle.numa_huge.specs.declared.spot.HugeSpot.{HugeSpot}
use Rattle.numa_host.specs.Standing.{HostState}
use Rattle.numa_host.specs.declared.process.Process.{Process}
use Rattle.numa_host_huge.specs.Sharing.{Sharing, given_back, memory_in}
use Rattle.numa_host_script.specs.Hosts.{Hosting}
use Rattle.numa_host_script.specs.Sessions.{Hosted, Session, Single}
use Rattle.numa_host_script.specs.Standing.{IsHostIn}
use Rattle.numa_page_state.specs.Huge.{has_huge_in, touch_walk}
use Rattle.numa_page_state.specs.Lying.{ground_in}
use Rattle.numa_placed.specs.Binds.{nodes_in}
use Rattle.numa_placed.specs.Laid.{Laid, spot_at}
use Rattle.numa_placed.specs.declared.spot.Spot.{Spot}
use Rattle.numa_placed.specs.declared.spot.Spot.TheVariants.{Nowhere, Stated}
use Rattle.numa_ranges.specs.Counts.{range_count}
use Rattle.numa_run.specs.States.{State}
use Rattle.numa_sheets.specs.declared.asked.Touch.{Touch}
use Rattle.numa_space.specs.History.{page_count, page_of}
use Rattle.numa_space.specs.Standing.{SpaceState, StandsFor}
use Rattle.numa_words.specs.declared.touching.Touched.{Touched}

-- ---- the pages of a process

-- all pages of a process once each was touched, the lowest first, and what that did
abbrev pub all_touched : SpaceState → Touch → HugeLying → HugeTouch
all_touched space touch huge =
    touched_pages (λ page. nodes_in space touch.task touch.cpu (page * 512)) 0 (2 ^ 26)
    (touch_from huge)

-- so many pages lie on each node, and no node gave so many
pub record AreGiven (said : FromPools) (touch : HugeTouch) : Type 0 where
  pub on : (node : ℕ) → node < 256
      → slice_index said.on node ≡ pages_in (on_node node) touch.huge.spots 0 67108864
  pub exhausted : said.exhausted ≡ touch.arrived.exhausted

-- ---- their parts

-- the first number that is no node's, of a machine of so many nodes; with 256 there is none
abbrev pub nobody : ℕ → Option ℕ
nobody nodes = if nat_lt nodes 256 then Some nodes else None

abbrev pub stated_or : Spot → Option ℕ → Spot
stated_or there None = there
stated_or there (Some node) = Stated node

-- the node of a page's parts: its own; of one that lies nowhere that of nobody
abbrev pub parts_node : Option ℕ → Option HugeSpot → Option ℕ
parts_node spare None = None
parts_node spare (Some spot) = option_or (node_of (Some spot)) spare

-- a page of 4 KiB that lay there, if it is a part of such a page; another lies where it lay
abbrev pub part_spot : Option ℕ → Option HugeSpot → Spot → Spot
part_spot spare spot there = stated_or there (parts_node spare spot)

abbrev pub with_parts : Option ℕ → (ℕ → Option HugeSpot) → (ℕ → Spot) → ℕ → Spot
with_parts spare spots there page = part_spot spare (spots (page / 512)) (there page)

-- the same, where a process may have no pages of 2 MiB
abbrev pub with_parts_if : Option ℕ → Option (ℕ → Option HugeSpot) → (ℕ → Spot) → ℕ → Spot
with_parts_if spare None there page = there page
with_parts_if spare (Some spots) there page = with_parts spare spots there page

abbrev pub spots_lent : Option (Bor HugePlaced) → Option (ℕ → Option HugeSpot)
spots_lent places = option_map (λ places. huge_at places.now.runs) places

-- pages below address 2^47 lie so
abbrev pub LieSo : Laid → (ℕ → Spot) → Type 0
LieSo lying spots = (page : ℕ) → page < 2 ^ 35 → spot_at lying page ≡ spots page

-- where the pages of the process at a place of a list lie; of none of one past its end
abbrev pub spots_there : Option Laid → ℕ → Spot
spots_there None page = Nowhere
spots_there (Some there) page = spot_at there page

-- pages that lie so were added to a list
pub record IsAdded (old new : List Laid) (spots : ℕ → Spot) : Type 0 where
  pub last : Laid
  pub added : new ≡ old ++ last ∷ []
  pub lies : LieSo last spots

-- ---- a process of a host

-- its pages from an address on so many bytes are touched, if it has some, beside those of others
abbrev pub touch_in : SpaceState → Touch → ℕ → ℕ → HugeMemory → HugeTouch
touch_in space touch start bytes memory =
    touch_walk (ground_in space []) start bytes touch.task touch.cpu memory

abbrev pub kept_then : HugeTouch → HugeMemory → HugeMemory
kept_then touch memory = record memory { pages = touch.huge; arrived = Some touch.arrived }

abbrev pub touched_where : Bool → ℕ → (HugeMemory → HugeTouch) → Option HugeMemory → Sharing
    → Sharing × ℕ
touched_where has process touch None at = (at, 0)
touched_where has process touch (Some memory) at = if has
    then (given_back process (kept_then (touch memory) memory) at, (touch memory).arrived.exhausted)
    else (at, 0)

-- what it leaves, and how many of them no node gave
abbrev pub touched_in : ℕ → SpaceState → Touch → ℕ → ℕ → Sharing → Sharing × ℕ
touched_in process space touch start bytes at =
    touched_where (has_huge_in (memory_in process at) (page_of start) (page_count bytes)) process
    (touch_in space touch start bytes) (memory_in process at) at

-- ---- the processes of a host, one after the other

-- the pages of all, how many lie on each node, how many no node gave, and where all pages lie, by
-- process
pub record Told : Type 0 where
  pub at : Sharing
  pub on : ℕ → ℕ
  pub exhausted : ℕ
  pub lying : List (ℕ → Spot)

abbrev pub told_from : Sharing → Told
told_from at = record { at = at; on = λ node. 0; exhausted = 0; lying = [] }

abbrev pub held : ℕ → ℕ
held n = min n 18446744073709551615

abbrev pub spots_if : Option HugeMemory → Option (ℕ → Option HugeSpot)
spots_if None = None
spots_if (Some memory) = Some memory.pages.spots

-- so many lie on a node with those of a process, if it has some
abbrev pub counted : Option (ℕ → Option HugeSpot) → ℕ → ℕ → ℕ
counted None node pages = pages
counted (Some spots) node pages = held (pages + pages_in (on_node node) spots 0 67108864)

-- a process is told of, whose pages are so
abbrev pub with_lying : Option ℕ → List Laid → Option (ℕ → Option HugeSpot) → Told → Told
with_lying spare there spots told = record told {
  on = λ node. counted spots node (told.on node);
  lying = told.lying ++ with_parts_if spare spots (spots_there
      (slice_get there (length told.lying))) ∷ [];
}

abbrev pub left_by : Sharing × ℕ → Told → Told
left_by left told = record told { at = left.0; exhausted = held (told.exhausted + left.1) }

abbrev pub told_at : ℕ → SpaceState → List Laid → Sharing × ℕ → Told → Told
told_at process space there left told = with_lying (nobody space.machine.nodes) there
    (spots_if (memory_in process left.0)) (left_by left told)

-- a process touches all its pages
abbrev pub told_by : Touch → List Laid → Process → Told → Told
told_by touch there one told = told_at one.id one.space there
    (touched_in one.id one.space touch 0 140737488355328 told.at) told

-- if it is asked of: of all, where none is named
abbrev pub is_asked : Option ℕ → ℕ → Bool
is_asked None id = true
is_asked (Some process) id = process == id

abbrev pub told_if : Option ℕ → Touch → List Laid → Process → Told → Told
told_if process touch there one told =
    if is_asked process one.id then told_by touch there one told else told

abbrev pub told_each : Option ℕ → Touch → List Laid → List Process → Told → Told
told_each process touch there [] told = told
told_each process touch there (one ∷ rest) told =
    told_each process touch there rest (told_if process touch there one told)

-- lists of pages lie so
abbrev pub AllLie : List Laid → List (ℕ → Spot) → Type 0
AllLie [] [] = Unit {0}
AllLie (one ∷ rest) (spots ∷ others) = LieSo one spots × AllLie rest others
AllLie _ _ = ⊥

pub record IsTold (touched : Touched) (told : Told) : Type 0 where
  pub on : (node : ℕ) → node < 256 → slice_index touched.said.on node ≡ told.on node
  pub exhausted : touched.said.exhausted ≡ told.exhausted
  pub lying : AllLie touched.lying.items told.lying

-- ---- after a script

-- its one process keeps no run of them
abbrev pub HasNoRuns : Option HugeMemory → Type 0
HasNoRuns None = Unit {0}
HasNoRuns (Some memory) = range_count same_huge (kept_page memory.pages.spots) ≡ 0

-- it has no such pages: no machine or no run, or none that a process of its host has mapped
abbrev pub HasNone : Session → Type 0
HasNone (Single state) = (state.machine ≡ None) ⊎ HasNoRuns state.huge
HasNone (Hosted at) = at.lying.huge.homes ≡ []

-- all pages lie as those of its one process do
pub record IsFromOwn (state : State) (touch : Touch) (there : List Laid) (touched : Touched)
    : Type 0 where
  pub space : SpaceState
  pub memory : HugeMemory
  pub stands : StandsFor space state.world.history
  pub kept : state.huge ≡ Some memory
  pub said : AreGiven touched.said (all_touched space touch memory.pages)
  pub lying : IsAdded [] touched.lying.items (with_parts (nobody space.machine.nodes)
      (all_touched space touch memory.pages).huge.spots (spots_there (slice_get there 0)))

-- or as those of its host's processes
pub record IsFromHost (at : Hosting) (process : Option ℕ) (touch : Touch) (there : List Laid)
    (touched : Touched) : Type 0 where
  pub host : HostState
  pub is : IsHostIn host (Hosted at)
  pub told : IsTold touched
      (told_each process touch there host.processes (told_from at.lying.huge))

abbrev pub IsFrom : Session → Option ℕ → Touch → List Laid → Touched → Type 0
IsFrom (Single state) process touch there touched = IsFromOwn state touch there touched
IsFrom (Hosted at) process touch there touched = IsFromHost at process touch there touched

-- none lies on a node, and no node lacked one
pub record AreNone (said : FromPools) : Type 0 where
  pub on : (node : ℕ) → node < 256 → slice_index said.on node ≡ 0
  pub exhausted : said.exhausted ≡ 0

-- nothing is told where there are none
abbrev pub IsTouched : Session → Option ℕ → Touch → List Laid → Option Touched → Type 0
IsTouched session process touch there None = HasNone session
    ⊎ ((touched : Touched) × IsFrom session process touch there touched × AreNone touched.said)
IsTouched session process touch there (Some touched) =
    IsFrom session process touch there touched × (AreNone touched.said → ⊥)
