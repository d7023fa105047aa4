-- Pages of 2 MiB beside those of 4 KiB of a core, and the pools that they come from. Each size has
-- its own supply.
use Rattle.std.specs.Prelude.{◌≡◌, ℕ, ◌+◌, ◌*◌, ◌/◌, ◌<◌, ◌&&◌, ◌||◌, Bool, true, false, Option}
use Rattle.std.specs.Prelude.{Some}
use Rattle.std.specs.Prelude.{None, List, Result, Ok, Err, if◌then◌else◌, is_some, min, nat_le}
use Rattle.std.specs.Prelude.{slice_index}
use Rattle.numa_machine.specs.Machine.{Hardware}
use Rattle.numa_machine.specs.declared.refusal.PlaceRefusal.{PlaceRefusal}
use Rattle.numa_mask.specs.NodeSet.{both}
use Rattle.numa_requests.specs.declared.page_refusal.HugeRefusal.{HugeRefusal}
use Rattle.numa_requests.specs.declared.page_refusal.HugeRefusal.TheVariants as because
use Rattle.numa_requests.specs.declared.page_refusal.MoveRefusal.{MoveRefusal}
use Rattle.numa_requests.specs.declared.page_refusal.PlacedRefusal.{PlacedRefusal}
use Rattle.numa_requests.specs.declared.page_refusal.PlacedRefusal.TheVariants as cause
use Rattle.numa_space.specs.History.{page_of, page_count}
use Rattle.numa_placed.specs.Shifts.{ArePages}
use Rattle.numa_placed.specs.Spots.{is_on, pages_where}
use Rattle.numa_placed.specs.declared.moved.Moved.{Moved}
use Rattle.numa_placed.specs.declared.spot.Spot.{Spot}
use Rattle.numa_huge.specs.Huge.{HugeLying, HugePlaced, fits, huge_at, mapping, node_of, on_node}
use Rattle.numa_huge.specs.Huge.{pages_of, places_of, too_many, unmapping}
use Rattle.numa_huge.specs.Moves.{HugeArrival, HugeMemory, following, leave_all, leave_from, stayed}
use Rattle.numa_huge.specs.Moves.{touch_from}
use Rattle.numa_huge.specs.declared.spot.HugeSpot.{HugeSpot}
use Rattle.numa_page_state.specs.Huge.{both_populated, fault_outcome, has_huge_in, huge_astray}
use Rattle.numa_page_state.specs.Huge.{huge_count, huge_fault, huge_first, huge_move, huge_page}
use Rattle.numa_page_state.specs.Huge.{huge_walk, spot_of, touch_walk, unmap_lack}
use Rattle.numa_page_state.specs.Lying.{Arrival, Ground, Lying, Process}
use Rattle.numa_page_state.specs.Outcomes.{Done, Lack, at_outcome, lack_told, migrate_outcome}
use Rattle.numa_page_state.specs.Outcomes.{move_outcome}
use Rattle.numa_page_state.specs.Pooling.{fault_cause, mapped_first, mapped_pages}
use Rattle.numa_page_state.specs.Strict.{has_astray}
use Rattle.numa_page_state.specs.Touching.{populate_outcome}
use Rattle.numa_page_state.specs.declared.arrived.Arrived.{Arrived}
use Rattle.numa_page_state.specs.declared.binding.Binding.{Binding}
use Rattle.numa_page_state.specs.declared.last.Last.TheVariants as went
use Rattle.numa_page_state.specs.declared.shift.Shift.{Shift}
use Rattle.numa_page_state.specs.declared.state.PageState.{PageState}
use Rattle.numa_pages.specs.declared.refusal.ChangeRefusal.{ChangeRefusal}
use Rattle.numa_pages.specs.declared.refusal.ChangeRefusal.TheVariants.{OfHuge, OfPages}

-- what was done, or why it was refused, and the pages of both sizes after it
abbrev pub Both : Type 0 → Type 0 → Type 0
Both A Cause = Result A Cause × (Lying × HugeLying)

-- pages of 2 MiB of which nothing is told
abbrev pub alone : HugeLying → HugeMemory
alone huge = record { pages = huge; told = stayed; arrived = None }

-- those of 2 MiB are as they were
abbrev pub beside : {A Cause : Type 0} → HugeLying → Done A Cause → Both A Cause
beside huge done = (done.0, (done.1, huge))

-- those of 4 KiB are
abbrev pub alike : {A Cause : Type 0} → Lying → Result A Cause × HugeMemory → Both A Cause
alike at done = (done.0, (at, done.1.pages))

-- whether a page of a span has 2 MiB
abbrev pub has_huge_among : HugeLying → ℕ → ℕ → Bool
has_huge_among huge start bytes =
    has_huge_in (Some (alone huge)) (page_of start) (page_count bytes)

-- ---- where a page of 4 KiB lies, or the one of 2 MiB of which it is a part

abbrev pub part_spot : Option HugeSpot → Spot → Spot
part_spot None spot = spot
part_spot (Some at) spot = spot_of (node_of (Some at))

abbrev pub both_spots : HugeLying → (ℕ → Spot) → ℕ → Spot
both_spots huge spots page = part_spot (huge.spots (page / 512)) (spots page)

-- how many pages of 4 KiB lie on a node, of which a page of 2 MiB is 512
abbrev pub both_on : HugeLying → (ℕ → Spot) → ℕ → ℕ
both_on huge spots node = 512 * pages_of (on_node node) huge.spots + pages_where (is_on node) spots

-- ---- pages that are stated to lie on a node: none may have 2 MiB

abbrev pub state_told : Result (Unit {0}) PlacedRefusal → Result (Unit {0}) ChangeRefusal
state_told (Ok done) = Ok tt
state_told (Err why) = Err (OfPages why)

abbrev pub of_pages : Done (Unit {0}) PlacedRefusal → Done (Unit {0}) ChangeRefusal
of_pages done = (state_told done.0, done.1)

abbrev pub place_outcome : Lack → Ground → ℕ → ℕ → ℕ → HugeLying → Lying
    → Both (Unit {0}) ChangeRefusal
place_outcome lack basis start bytes node huge at = if has_huge_among huge start bytes
    then (Err (OfHuge because.NotSupported), (at, huge))
    else beside huge (of_pages (at_outcome lack basis start bytes node at))

-- ---- first touches of a span

abbrev pub without_told : {A Cause : Type 0} → Result A Cause × (Lying × HugeMemory)
    → Both A Cause
without_told done = (done.0, (done.1.0, done.1.1.pages))

abbrev pub touch_outcome : Lack → Ground → ℕ → ℕ → ℕ → ℕ → HugeLying → Lying
    → Both (Unit {0}) PlacedRefusal
touch_outcome lack basis start bytes task cpu huge at = if has_huge_among huge start bytes
    then without_told (both_populated lack basis start bytes task cpu (alone huge) at)
    else beside huge (populate_outcome lack basis start bytes task cpu at)

-- what they did to pages of 2 MiB
abbrev pub huge_arrival : Ground → ℕ → ℕ → ℕ → ℕ → HugeLying → HugeArrival
huge_arrival basis start bytes task cpu huge = if has_huge_among huge start bytes
    then (touch_walk basis start bytes task cpu (alone huge)).arrived
    else (touch_from huge).arrived

-- what is told of both counts each page once, whatever its size
pub record HaveArrived (told : Arrived) (small : Arrival) (huge : HugeArrival) : Type 0 where
  pub placed : told.placed ≡ small.placed + huge.placed
  pub exhausted : told.exhausted ≡ small.exhausted + huge.exhausted
  pub on : ArePages told.on (λ node. small.on node + huge.on node)

-- ---- the first touch of one page

-- the node where it lies then, or what there is where none gives it
abbrev pub fault_told : HugeRefusal → Result (Option ℕ) PlacedRefusal → Result ℕ HugeRefusal
fault_told none (Ok (Some node)) = Ok node
fault_told none (Ok None) = Err none
fault_told none (Err why) = Err (fault_cause why)

abbrev pub small_faulted : HugeLying → Result (Option ℕ) PlacedRefusal × Lying
    → Both ℕ HugeRefusal
small_faulted huge done = (fault_told because.Exhausted done.0, (done.1, huge))

abbrev pub huge_faulted : Lying → Result (Option ℕ) PlacedRefusal × HugeLying
    → Both ℕ HugeRefusal
huge_faulted at done = (fault_told because.Killed done.0, (at, done.1))

-- of a page that has a list of nodes
abbrev pub listed_fault : Lack → Ground → ℕ → ℕ → ℕ → HugeLying → Lying → Both ℕ HugeRefusal
listed_fault lack basis task address cpu huge at = if is_some (huge.spots (huge_page address))
    then huge_faulted at (huge_fault lack (huge_page address)
    (basis.lists task cpu (page_of address)) huge)
    else small_faulted huge (fault_outcome lack basis task address cpu at)

-- ---- a page that moves to a node

abbrev pub go_outcome : Lack → Ground → ℕ → ℕ → HugeLying → Lying → Both (Unit {0}) MoveRefusal
go_outcome lack basis address node huge at = if is_some (huge.spots (huge_page address))
    then alike at (huge_move lack basis (huge_page address) node (alone huge))
    else beside huge (move_outcome lack basis address node at)

-- ---- pages that move by their node: each is counted once, whatever its size

abbrev pub both_told : ℕ → ℕ → HugeLying → Result Shift PlacedRefusal → Result Shift PlacedRefusal
both_told old new huge (Ok shift) = Ok (record {
  moved = shift.moved + leave_all old new huge.spots;
  left = shift.left;
})
both_told old new huge (Err why) = Err why

abbrev pub gone_with : ℕ → ℕ → HugeLying → Result Shift PlacedRefusal → HugeLying
gone_with old new huge (Ok shift) = following old new huge
gone_with old new huge (Err why) = huge

abbrev pub both_shift : ℕ → ℕ → HugeLying → Done Shift PlacedRefusal → Both Shift PlacedRefusal
both_shift old new huge done =
    (both_told old new huge done.0, (done.1, gone_with old new huge done.0))

abbrev pub shift_outcome : Lack → Ground → ℕ → ℕ → HugeLying → Lying → Both Shift PlacedRefusal
shift_outcome lack basis from to huge at = both_shift from (both to basis.allowed) huge
    (migrate_outcome lack basis from to at)

-- what is told of them: the pages of each node of both sizes go to the same
pub record IsSum (old new : ℕ) (huge : HugeLying) (small told : Moved) : Type 0 where
  pub from : (node : ℕ) → node < 256 → slice_index told.from node
      ≡ slice_index small.from node + leave_from old new huge.spots node
  pub to : told.to ≡ small.to

abbrev pub IsLastSum : ℕ → ℕ → HugeLying → PageState → Moved → Type 0
IsLastSum old new huge state told = (small : Moved) × (state.last ≡ went.Nodes small)
    × IsSum old new huge small told

-- ---- policies

-- a page of either size lies astray
abbrev pub any_astray : Process → HugeLying → (ℕ → Spot) → Binding → Bool
any_astray process huge spots said =
    has_astray process spots said || huge_astray process (alone huge) said

-- ---- pages that are unmapped

abbrev pub huge_after : ℕ → ℕ → HugeLying → HugeLying
huge_after start bytes huge = if has_huge_among huge start bytes
    then unmapping (huge_first (page_of start)) (huge_count (page_of start) (page_count bytes)) huge
    else huge

abbrev pub huge_lack : Lack → ℕ → ℕ → HugeLying → Option PlacedRefusal
huge_lack lack start bytes huge = if has_huge_among huge start bytes
    then unmap_lack lack start bytes (alone huge) else None

-- a span has none of them; or they are so then, in runs that aren't too many; or these lack runs or
-- memory
abbrev pub LeavesHuge : HugeLying → ℕ → ℕ → Result (Option HugePlaced) PlacedRefusal → Type 0
LeavesHuge huge start bytes (Ok None) = has_huge_among huge start bytes ≡ false
LeavesHuge huge start bytes (Ok (Some after)) = (has_huge_among huge start bytes ≡ true)
    × (places_of after ≡ huge_after start bytes huge) × (too_many (huge_at after.runs) ≡ false)
LeavesHuge huge start bytes (Err why) =
    huge_lack (lack_told why) start bytes huge ≡ Some why

-- ---- pools

-- no call says more pages
abbrev pub most_said : ℕ
most_said = 9223372036854775807

abbrev pub said_pages : ℕ → ℕ
said_pages pages = min pages most_said

-- ---- a span that is mapped; one that can't be the core refuses

abbrev pub with_mapping : ℕ → ℕ → Bool → HugeLying → HugeLying
with_mapping start bytes reserves huge =
    if fits huge.spots (mapped_first start) (mapped_pages bytes)
    then mapping (mapped_first start) (mapped_pages bytes) reserves huge else huge
