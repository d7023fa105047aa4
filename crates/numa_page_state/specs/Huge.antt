-- Pages of 2 MiB beside the other pages of a process, and first touches of pages of either size.
-- Where no line spoke of pages of 2 MiB, all is as without them.
use Rattle.std.specs.Prelude.{◌≡◌, ℕ, ◌+◌, ◌-◌, ◌*◌, ◌/◌, ◌==◌, ◌&&◌, Bool, true, false, Option, Some}
use Rattle.std.specs.Prelude.{None, Result, Ok, Err, MatchResult, List, ◌∷◌, if◌then◌else◌, is_some}
use Rattle.std.specs.Prelude.{min}
use Rattle.numa_mask.specs.NodeSet.{both, with_node}
use Rattle.numa_machine.specs.Machine.{Hardware}
use Rattle.numa_mode.specs.Policy.{PolicyRecord, is_local}
use Rattle.numa_mode.specs.declared.modes.Mode.{Mode}
use Rattle.numa_mode.specs.declared.modes.Mode.TheVariants.{Bind}
use Rattle.numa_ranges.specs.Maps.{any_page}
use Rattle.numa_ranges.specs.Runs.{in_pages}
use Rattle.numa_requests.specs.declared.command.Command.{Command}
use Rattle.numa_requests.specs.declared.page_refusal.MoveRefusal.{MoveRefusal}
use Rattle.numa_requests.specs.declared.page_refusal.MoveRefusal.TheVariants as move
use Rattle.numa_requests.specs.declared.page_refusal.PlacedRefusal.{PlacedRefusal}
use Rattle.numa_requests.specs.declared.page_refusal.PlacedRefusal.TheVariants as cause
use Rattle.numa_requests.specs.declared.placement.Placement.{Placement}
use Rattle.numa_space.specs.History.{page_of, page_count}
use Rattle.numa_space.specs.Pages.{resolved_policy}
use Rattle.numa_space.specs.Standing.{SpaceState}
use Rattle.numa_maps.specs.Residents.{placed_at}
use Rattle.numa_placed.specs.Laid.{Laid}
use Rattle.numa_placed.specs.Refusals.{move_cause}
use Rattle.numa_placed.specs.Spots.{node_of as small_node, spot_at}
use Rattle.numa_placed.specs.declared.moved.Moved.{Moved}
use Rattle.numa_placed.specs.declared.rooms.Rooms.{Rooms}
use Rattle.numa_placed.specs.declared.spot.Spot.{Spot}
use Rattle.numa_placed.specs.declared.spot.Spot.TheVariants.{Nowhere, Stated}
use Rattle.numa_huge.specs.Huge.{HugeLying, HugePlaced, faulting, giver_for, has_huge, lack_for}
use Rattle.numa_huge.specs.Huge.{most_pages, node_of, places_of, unmapping, with_span}
use Rattle.numa_huge.specs.Moves.{HugeMemory, HugeTouch, HugeWalk, following, is_astray, moved_to}
use Rattle.numa_huge.specs.Moves.{named_by, named_in, sent_pages, stayed, told_following}
use Rattle.numa_huge.specs.Moves.{told_moving, touch_from, touched_pages, walk_from}
use Rattle.numa_huge.specs.Tallies.{IsMemory}
use Rattle.numa_huge.specs.declared.arrived.HugeArrived.{HugeArrived}
use Rattle.numa_huge.specs.declared.last.HugeLast.{HugeLast}
use Rattle.numa_huge.specs.declared.last.HugeLast.TheVariants as went
use Rattle.numa_huge.specs.declared.pages.HugePages.{HugePages}
use Rattle.numa_huge.specs.declared.spot.HugeSpot.{HugeSpot}
use Rattle.numa_huge.specs.declared.spot.HugeSpot.TheVariants.{On}
use Rattle.numa_page_state.specs.Lying.{Ground, Lying, Process}
use Rattle.numa_page_state.specs.Outcomes.{Enough, Lack, is_starved, lack_told}
use Rattle.numa_page_state.specs.Sending.{command_of, nodes_of}
use Rattle.numa_page_state.specs.Standing.{ArrivedAs, HaveRoom}
use Rattle.numa_page_state.specs.Strict.{judged_of}
use Rattle.numa_page_state.specs.Touching.{populate_outcome, touch_cause, touched_by, with_touched}
use Rattle.numa_page_state.specs.declared.arrived.Arrived.{Arrived}
use Rattle.numa_page_state.specs.declared.binding.Binding.{Binding}
use Rattle.numa_page_state.specs.declared.sending.Rebinding.{Rebinding}
use Rattle.numa_page_state.specs.declared.sending.Toucher.{Toucher}

-- ---- spans

-- the page of 2 MiB of an address
abbrev pub huge_page : ℕ → ℕ
huge_page address = address / 2097152

-- the pages of 2 MiB that have a part among pages of 4 KiB from one on: the first, and how many
abbrev pub huge_first : ℕ → ℕ
huge_first first = min (first / 512) most_pages

abbrev pub huge_end : ℕ → ℕ → ℕ
huge_end first pages = min ((first + pages + 511) / 512) most_pages

abbrev pub huge_count : ℕ → ℕ → ℕ
huge_count first pages = if pages == 0 then 0 else huge_end first pages - huge_first first

-- whether one of them is mapped as one of 2 MiB, and whether any page is
abbrev pub has_huge_in : Option HugeMemory → ℕ → ℕ → Bool
has_huge_in None first pages = false
has_huge_in (Some memory) first pages =
    has_huge memory.pages.spots (huge_first first) (huge_count first pages)

abbrev pub has_any : Option HugeMemory → Bool
has_any None = false
has_any (Some memory) = has_huge memory.pages.spots 0 most_pages

-- what is known of the page of 2 MiB of an address
abbrev pub huge_at_address : Option HugeMemory → ℕ → Option HugeSpot
huge_at_address None address = None
huge_at_address (Some memory) address = memory.pages.spots (huge_page address)

-- ---- whose nodes

abbrev pub is_bind : Mode → Bool
is_bind Bind = true
is_bind _ = false

-- the nodes that may give the pages of a mapping, where these are allowed: those of its task's
-- policy, if that binds it and is live
abbrev pub mapping_nodes : Option PolicyRecord → ℕ → ℕ
mapping_nodes None allowed = allowed
mapping_nodes (Some r) allowed = if is_bind r.spec.mode
    then if both r.effective allowed == 0 then allowed else both r.effective allowed else allowed

-- the nodes whose pools a task resizes that is on a CPU of a node, where these have memory: those
-- of its policy; the CPU's, if it is local; all, if it has none or that isn't live
abbrev pub resizing_nodes : Option PolicyRecord → ℕ → ℕ → ℕ
resizing_nodes None memory cpu = memory
resizing_nodes (Some r) memory cpu = if is_local r.spec then with_node 0 cpu
    else if r.effective == 0 then memory else r.effective

-- ---- first touches

-- a page of 4 KiB that keeps no frame is touched as `populate` does; the node where it lies then
abbrev pub told_fault : ℕ → Result (Unit {0}) PlacedRefusal × Lying
    → Result (Option ℕ) PlacedRefusal × Lying
told_fault page (Ok done, at) = (Ok (small_node (at.spots page)), at)
told_fault page (Err why, at) = (Err why, at)

abbrev pub small_fault : Option Placement → Lack → Ground → ℕ → ℕ → ℕ → Lying
    → Result (Option ℕ) PlacedRefusal × Lying
small_fault (Some placement) lack basis task page cpu at = (Ok (Some placement.node), at)
small_fault None lack basis task page cpu at =
    told_fault page (populate_outcome lack basis (page * 4096) 4096 task cpu at)

abbrev pub fault_outcome : Lack → Ground → ℕ → ℕ → ℕ → Lying
    → Result (Option ℕ) PlacedRefusal × Lying
fault_outcome lack basis task address cpu at = small_fault (placed_at basis.kept (page_of address))
    lack basis task (page_of address) cpu at

-- of a page of 2 MiB: it lies on a node already, or a node gives it, or none does
abbrev pub given_fault : Option PlacedRefusal → Option ℕ → ℕ → HugeLying
    → Result (Option ℕ) PlacedRefusal × HugeLying
given_fault (Some why) given page huge = (Err why, huge)
given_fault None given page huge = (Ok given, faulting given page huge)

abbrev pub fault_lack : Bool → Option ℕ → ℕ → HugeLying → Option PlacedRefusal
fault_lack starved None page huge = None
fault_lack starved (Some node) page huge =
    lack_for starved (with_span page 1 (Some (On node)) huge.spots)

abbrev pub huge_fault_at : Option ℕ → Lack → ℕ → List ℕ → HugeLying
    → Result (Option ℕ) PlacedRefusal × HugeLying
huge_fault_at (Some node) lack page nodes huge = (Ok (Some node), huge)
huge_fault_at None lack page nodes huge = given_fault
    (fault_lack (is_starved lack) (giver_for huge page nodes) page huge)
    (giver_for huge page nodes) page huge

abbrev pub huge_fault : Lack → ℕ → List ℕ → HugeLying → Result (Option ℕ) PlacedRefusal × HugeLying
huge_fault lack page nodes huge = huge_fault_at (node_of (huge.spots page)) lack page nodes huge

-- ---- pages that are unmapped

abbrev pub unmapped_in : ℕ → ℕ → HugeMemory → HugeMemory
unmapped_in start bytes memory = record memory {
  pages = unmapping (huge_first (page_of start)) (huge_count (page_of start) (page_count bytes))
      memory.pages;
}

abbrev pub unmap_lack : Lack → ℕ → ℕ → HugeMemory → Option PlacedRefusal
unmap_lack lack start bytes memory = lack_for (is_starved lack) (with_span
    (huge_first (page_of start)) (huge_count (page_of start) (page_count bytes)) None
    memory.pages.spots)

-- ---- moves: pages of both sizes go, of which neither takes room of the other

-- pages of 2 MiB leave one set of nodes for another, if they are to
abbrev pub huge_followed : Bool → ℕ → ℕ → HugeMemory → HugeMemory
huge_followed false old new memory = record memory { told = stayed }
huge_followed true old new memory = record memory {
  pages = following old new memory.pages;
  told = told_following old new memory.pages.spots;
}

-- no page of 2 MiB moved
abbrev pub huge_rested : HugeMemory → HugeMemory
huge_rested memory = record memory { told = stayed }

-- move ADDR NODE, of a page of 2 MiB
abbrev pub spot_of : Option ℕ → Spot
spot_of None = Nowhere
spot_of (Some node) = Stated node

abbrev pub move_lack_by : Option PlacedRefusal → Option MoveRefusal
move_lack_by None = None
move_lack_by (Some cause.TooManyRuns) = Some move.TooManyRuns
move_lack_by (Some _) = Some move.NoMemory

abbrev pub huge_move_cause : Hardware → ℕ → ℕ → Option ℕ → Option MoveRefusal
huge_move_cause machine allowed node lies =
    move_cause machine allowed node true (spot_of lies)

abbrev pub huge_move_lack : Lack → ℕ → ℕ → Option ℕ → HugeLying → Option PlacedRefusal
huge_move_lack lack page node None huge = None
huge_move_lack lack page node (Some from) huge = if from == node then None
    else lack_for (is_starved lack) (with_span page 1 (Some (On node)) huge.spots)

abbrev pub moved_in : ℕ → ℕ → HugeMemory → HugeMemory
moved_in page node memory = record memory {
  pages = moved_to (memory.pages.spots page) page node memory.pages;
  told = told_moving (memory.pages.spots page) node;
}

abbrev pub move_unless_lack : Option MoveRefusal → Option MoveRefusal → ℕ → ℕ → HugeMemory
    → Result (Unit {0}) MoveRefusal × HugeMemory
move_unless_lack (Some why) lack page node memory = (Err why, memory)
move_unless_lack None (Some why) page node memory = (Err why, memory)
move_unless_lack None None page node memory = (Ok tt, moved_in page node memory)

abbrev pub huge_move : Lack → Ground → ℕ → ℕ → HugeMemory
    → Result (Unit {0}) MoveRefusal × HugeMemory
huge_move lack basis page node memory = move_unless_lack
    (huge_move_cause basis.machine basis.allowed node (node_of (memory.pages.spots page)))
    (move_lack_by (huge_move_lack lack page node (node_of (memory.pages.spots page)) memory.pages))
    page node memory

-- ---- mbind

-- a judged page of the span lies on another node than those of the list
abbrev pub huge_astray : Process → HugeMemory → Binding → Bool
huge_astray process memory said =
    any_page (λ page. is_astray said.list (memory.pages.spots page))
    (huge_first (page_of said.start))
    (huge_count (page_of said.start) (judged_of process said))

-- the nodes to which a page of 2 MiB may go, for a fault of the task on the node
abbrev pub named_of : Hardware → List Command → Toucher → ℕ → List ℕ
named_of machine history toucher page =
    named_by (resolved_policy machine history toucher.task page)
    (nodes_of machine history toucher page)

-- pages of the span go that lie astray, each to one of its own nodes with the policy
abbrev pub huge_walk : Process → Rebinding → Toucher → HugeMemory → HugeWalk
huge_walk process said toucher memory = sent_pages said.spec.mask
    (λ page. named_of process.machine (command_of said ∷ process.history) toucher (page * 512))
    (huge_first (page_of said.start)) (huge_count (page_of said.start) (page_count said.length))
    (walk_from memory.pages)

abbrev pub huge_sent : Process → Rebinding → Toucher → HugeMemory → HugeMemory
huge_sent process said toucher memory = record memory {
  pages = (huge_walk process said toucher memory).huge;
  told = (huge_walk process said toucher memory).told;
}

-- ---- populate START LENGTH TASK CPU

-- whether a page of 4 KiB is a part of one of 2 MiB, of the pages of that size from one on
abbrev pub is_part_of : (ℕ → Option HugeSpot) → ℕ → ℕ → ℕ → Bool
is_part_of huge first pages page =
    in_pages first pages (page / 512) && is_some (huge (page / 512))

-- the parts of these lie so
abbrev pub with_parts : Spot → (ℕ → Option HugeSpot) → ℕ → ℕ → (ℕ → Spot) → ℕ → Spot
with_parts spot huge first pages spots page =
    if is_part_of huge first pages page then spot else spots page

-- those of the pages of 2 MiB of a span
abbrev pub with_parts_in : Spot → (ℕ → Option HugeSpot) → ℕ → ℕ → Lying → Lying
with_parts_in spot huge start bytes at = record at {
  spots = with_parts spot huge (huge_first (page_of start))
      (huge_count (page_of start) (page_count bytes)) at.spots;
}

-- they are no pages of 4 KiB: those are touched as if the parts lay somewhere, which lie nowhere
-- again then
abbrev pub as_if_there : (ℕ → Option HugeSpot) → ℕ → ℕ → Lying → Lying
as_if_there huge start bytes at = with_parts_in (Stated 0) huge start bytes at

abbrev pub as_they_lay : (ℕ → Option HugeSpot) → ℕ → ℕ → Lying → Lying
as_they_lay huge start bytes at = with_parts_in Nowhere huge start bytes at

abbrev pub beside_parts : (ℕ → Option HugeSpot) → ℕ → ℕ
    → Result (Unit {0}) PlacedRefusal × Lying → Lying
    → Result (Unit {0}) PlacedRefusal × Lying
beside_parts huge start bytes (Err why, after) at = (Err why, at)
beside_parts huge start bytes (Ok done, after) at = (Ok done, as_they_lay huge start bytes after)

abbrev pub small_populated : Lack → Ground → ℕ → ℕ → ℕ → ℕ → HugeMemory → Lying
    → Result (Unit {0}) PlacedRefusal × Lying
small_populated lack basis start bytes task cpu memory at =
    if is_starved lack then (Err cause.NoMemory, at)
    else beside_parts memory.pages.spots start bytes (populate_outcome lack basis start bytes task
    cpu (as_if_there memory.pages.spots start bytes at)) at

-- those of 2 MiB, each by its own list of nodes; the answer tells of them apart, where there are
-- some
abbrev pub touch_walk : Ground → ℕ → ℕ → ℕ → ℕ → HugeMemory → HugeTouch
touch_walk basis start bytes task cpu memory =
    touched_pages (λ page. basis.lists task cpu (page * 512)) (huge_first (page_of start))
    (huge_count (page_of start) (page_count bytes)) (touch_from memory.pages)

abbrev pub huge_populated : Ground → ℕ → ℕ → ℕ → ℕ → HugeMemory → HugeMemory
huge_populated basis start bytes task cpu memory =
    record memory {
      pages = (touch_walk basis start bytes task cpu memory).huge;
      arrived = Some (touch_walk basis start bytes task cpu memory).arrived;
    }

abbrev pub populated_with : Ground → ℕ → ℕ → ℕ → ℕ → HugeMemory
    → Result (Unit {0}) PlacedRefusal × Lying
    → Result (Unit {0}) PlacedRefusal × (Lying × HugeMemory)
populated_with basis start bytes task cpu memory (Err why, at) = (Err why, (at, memory))
populated_with basis start bytes task cpu memory (Ok done, at) =
    (Ok done, (at, huge_populated basis start bytes task cpu memory))

abbrev pub both_populated : Lack → Ground → ℕ → ℕ → ℕ → ℕ → HugeMemory → Lying
    → Result (Unit {0}) PlacedRefusal × (Lying × HugeMemory)
both_populated lack basis start bytes task cpu memory at =
    if is_starved lack then (Err cause.NoMemory, (at, memory))
    else populated_with basis start bytes task cpu memory
    (small_populated lack basis start bytes task cpu memory at)

-- ---- what calls come to

-- pages of 4 KiB of a span were touched beside parts of pages of 2 MiB, unless something stands
-- against it, or they lack runs or memory
abbrev pub touched_beside : Ground → (ℕ → Option HugeSpot) → ℕ → ℕ → ℕ → ℕ → Lying → Lying
touched_beside basis huge start bytes task cpu at = as_they_lay huge start bytes (with_touched
    (touched_by basis start bytes task cpu) (as_if_there huge start bytes at))

abbrev pub cause_beside : Lack → Ground → (ℕ → Option HugeSpot) → ℕ → ℕ → ℕ → ℕ → Lying
    → Option PlacedRefusal
cause_beside lack basis huge start bytes task cpu at =
    touch_cause lack basis start bytes task cpu (as_if_there huge start bytes at)

pub record HasTouched (new : Laid) (rooms : Option Rooms) (arrived : Arrived) (at : Lying) : Type 0
  where
    pub spots : (page : ℕ) → spot_at new page ≡ at.spots page
    pub room : HaveRoom rooms at.room
    pub arrived_is : ArrivedAs arrived at.arrived

abbrev pub TouchesBeside : Laid → Option Rooms → Ground → (ℕ → Option HugeSpot) → ℕ → ℕ → ℕ → ℕ
    → Result Arrived PlacedRefusal → Laid → Option Rooms → Type 0
TouchesBeside old rooms basis huge start bytes task cpu result new rooms_then = (at : Lying)
    → ((page : ℕ) → spot_at old page ≡ at.spots page) → HaveRoom rooms at.room
    → MatchResult result
    (λ arrived. (cause_beside Enough basis huge start bytes task cpu at ≡ None)
    × HasTouched new rooms_then arrived (touched_beside basis huge start bytes task cpu at))
    (λ why. is_starved (lack_told why) ≡ false
    → cause_beside (lack_told why) basis huge start bytes task cpu at ≡ Some why)

-- a page of 2 MiB was touched as the definition says, by what it lacked; where that was memory, this
-- came of it
abbrev pub HugeFaults : HugePlaced → Result (Option ℕ) PlacedRefusal → HugePlaced → ℕ → List ℕ
    → Type 0
HugeFaults old result new page nodes = (lack : Lack)
    × ((huge_fault lack page nodes (places_of old)).0 ≡ result)
    × ((huge_fault lack page nodes (places_of old)).1 ≡ places_of new)
    × (is_starved lack ≡ true → result ≡ Err cause.NoMemory)

-- what a call did without what it tells, and the last move once it was done
abbrev pub told_done : Result Moved MoveRefusal → Result (Unit {0}) MoveRefusal
told_done (Ok told) = Ok tt
told_done (Err why) = Err why

abbrev pub last_after : Result Moved MoveRefusal → HugeLast → HugeLast
last_after (Ok told) last = went.Nodes told
last_after (Err why) last = last

-- a page of 2 MiB moved as the definition says, by what it lacked; where that was memory, this came of
-- it
abbrev pub HugeMoves : HugeMemory → Result (Unit {0}) MoveRefusal → HugePages → Ground → ℕ → ℕ
    → Type 0
HugeMoves memory result new basis page node = (lack : Lack)
    × ((huge_move lack basis page node memory).0 ≡ result)
    × IsMemory new (huge_move lack basis page node memory).1
    × (is_starved lack ≡ true → result ≡ Err move.NoMemory)

-- the same of the pages alone: whatever the last move and the last first touches did
abbrev pub HugeGoes : HugePlaced → Result Moved MoveRefusal → HugePlaced → Ground → ℕ → ℕ → Type 0
HugeGoes old result new basis page node = (last : HugeLast) (arrived : Option HugeArrived)
    (memory : HugeMemory)
    → IsMemory (record { places = old; last = last; arrived = arrived }) memory
    → HugeMoves memory (told_done result)
    (record { places = new; last = last_after result last; arrived = arrived }) basis page node

-- pages of a span went in a space that has the policy
abbrev pub huge_walk_in : SpaceState → Rebinding → Toucher → HugeMemory → HugeWalk
huge_walk_in space said toucher memory = sent_pages said.spec.mask
    (λ page. named_in space toucher.task toucher.cpu (page * 512)) (huge_first (page_of said.start))
    (huge_count (page_of said.start) (page_count said.length)) (walk_from memory.pages)
