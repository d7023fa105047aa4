-- Where pages of a span go, the lowest first, each to the first node of its own list that has room
-- by then: those that lie astray when the policy of the span is set anew (mbind(2), MPOL_MF_MOVE),
-- and those that aren't there yet when a task touches the span (madvise(2), MADV_POPULATE_WRITE).
use Rattle.std.specs.Prelude.{◌≡◌, ℕ, zero, suc, ◌-◌, ◌^◌, ◌==◌, ◌&&◌, Bool, false, true, not}
use Rattle.std.specs.Prelude.{Option, Some, None, List, [], ◌∷◌, if◌then◌else◌, is_some, nat_le}
use Rattle.numa_ranges.specs.Counts.{count_pages}
use Rattle.numa_ranges.specs.Runs.{in_pages, page_at}
use Rattle.numa_space.specs.History.{page_of, page_count}
use Rattle.numa_space.specs.Refusals.{ends_above}
use Rattle.numa_space.specs.Standing.{SpaceState, list_in, place_refusal_in}
use Rattle.numa_machine.specs.declared.refusal.PlaceRefusal.{PlaceRefusal}
use Rattle.numa_maps.specs.Residents.{Kept, placed_at}
use Rattle.numa_placed.specs.Astray.{is_astray}
use Rattle.numa_placed.specs.Shifts.{AreRooms, room_moved}
use Rattle.numa_placed.specs.Spots.{stated_spot}
use Rattle.numa_placed.specs.declared.bound.Bound.{Bound}
use Rattle.numa_placed.specs.declared.rooms.Rooms.{Rooms}
use Rattle.numa_placed.specs.declared.spot.Spot.{Spot}
use Rattle.numa_placed.specs.declared.spot.Spot.TheVariants.{Nowhere, Stated}
use Rattle.numa_placed.specs.declared.wants.Wants.{Wants}
use Rattle.numa_placed.specs.declared.wants.Wants.TheVariants.{Astray, Absent}

-- ---- what is asked

-- the pages of a span, those of them that are to go, by where they lie, and each page's own list of
-- nodes
pub record Asked : Type 0 where
  pub first : ℕ
  pub pages : ℕ
  pub wants : ℕ → Spot → Bool
  pub nodes : ℕ → List ℕ

-- the part of a span below address 2^47: by the kernel's rules a span whose policy is set may end
-- above, where no page is mapped
abbrev pub span_below : ℕ → ℕ → ℕ × ℕ
span_below start bytes =
    if not (ends_above (2 ^ 47) start bytes) then (start, bytes)
    else if nat_le (2 ^ 47) start then (0, 0) else (start, 2 ^ 47 - start)

-- a list of nodes, where nothing stands against asking for it
abbrev pub list_unless : Option PlaceRefusal → List ℕ → List ℕ
list_unless None list = list
list_unless (Some refusal) list = []

-- a page's list of nodes, for a fault of the task on the node
abbrev pub nodes_in : SpaceState → ℕ → ℕ → ℕ → List ℕ
nodes_in space task cpu page = list_unless
    (place_refusal_in space.machine.nodes (is_some (page_at space.ranges page)) cpu)
    (list_in space task page cpu)

-- those of so many pages from one on that lie astray of a list, by pages and by bytes
abbrev pub asked_in : SpaceState → ℕ → ℕ → ℕ → ℕ → ℕ → Asked
asked_in space first pages list task cpu = record {
  first = first;
  pages = pages;
  wants = λ page. is_astray list;
  nodes = nodes_in space task cpu;
}

abbrev pub asked_of : SpaceState → ℕ → ℕ → ℕ → ℕ → ℕ → Asked
asked_of space start bytes = asked_in space (page_of start) (page_count bytes)

-- whether a page is nowhere: it keeps no frame either
abbrev pub is_absent : Kept → ℕ → Spot → Bool
is_absent kept page Nowhere = not (is_some (placed_at kept page))
is_absent kept page (Stated node) = false

-- those of so many pages from one on that a task touches first, by pages and by bytes
abbrev pub touched_in : SpaceState → Kept → ℕ → ℕ → ℕ → ℕ → Asked
touched_in space kept first pages task cpu = record {
  first = first;
  pages = pages;
  wants = is_absent kept;
  nodes = nodes_in space task cpu;
}

abbrev pub touched_of : SpaceState → Kept → ℕ → ℕ → ℕ → ℕ → Asked
touched_of space kept start bytes = touched_in space kept (page_of start) (page_count bytes)

-- whether a page that lies here is to go
abbrev pub wants_of : Wants → ℕ → Spot → Bool
wants_of (Astray list) page = is_astray list.now
wants_of (Absent resident) page = is_absent resident.now page

-- those of so many pages from one on that are to go
abbrev pub asked_by : SpaceState → Wants → ℕ → ℕ → ℕ → ℕ → Asked
asked_by space wants first pages task cpu = record {
  first = first;
  pages = pages;
  wants = wants_of wants;
  nodes = nodes_in space task cpu;
}

-- whether a page that lies here is of the span, and to go
abbrev pub strays : Asked → ℕ → Spot → Bool
strays asked page spot = in_pages asked.first asked.pages page && asked.wants page spot

-- ---- one page

-- the first node of a list that has room
abbrev pub first_with_room : (ℕ → ℕ) → List ℕ → Option ℕ
first_with_room room [] = None
first_with_room room (node ∷ nodes) =
    if room node == 0 then first_with_room room nodes else Some node

-- a page that goes to a node, if there is one
abbrev pub sent_spot : Option ℕ → Spot → Spot
sent_spot None spot = spot
sent_spot (Some node) spot = stated_spot node spot

-- the rooms once a page that lies here went there
abbrev pub room_sent : (ℕ → ℕ) → Option ℕ → Spot → ℕ → ℕ
room_sent room None spot = room
room_sent room (Some node) spot = room_moved room node spot

-- whether it goes to another node
abbrev pub is_sent : Option ℕ → Spot → Bool
is_sent None spot = false
is_sent (Some node) Nowhere = true
is_sent (Some node) (Stated from) = not (from == node)

-- whether it finds no room, and stays
abbrev pub is_kept : Option ℕ → Spot → Bool
is_kept None spot = true
is_kept (Some node) spot = false

-- ---- page by page

-- the node to which each page goes, by the rooms that it finds
abbrev pub goal_at : (ℕ → List ℕ) → (ℕ → ℕ → ℕ) → ℕ → Option ℕ
goal_at nodes rooms page = first_with_room (rooms page) (nodes page)

-- the rooms that a page finds: those once the pages below it went
unfoldable pub room_before : Asked → (ℕ → Spot) → (ℕ → ℕ) → ℕ → ℕ → ℕ
room_before asked spots room zero = room
room_before asked spots room (suc page) = if strays asked page (spots page)
    then room_sent (room_before asked spots room page)
    (first_with_room (room_before asked spots room page) (asked.nodes page)) (spots page)
    else room_before asked spots room page

abbrev pub goals : Asked → (ℕ → Spot) → (ℕ → ℕ) → ℕ → Option ℕ
goals asked spots room = goal_at asked.nodes (room_before asked spots room)

-- where each page lies once it went
abbrev pub bound_by : Asked → (ℕ → Option ℕ) → (ℕ → Spot) → ℕ → Spot
bound_by asked goal spots page = if strays asked page (spots page)
    then sent_spot (goal page) (spots page) else spots page

abbrev pub bound_spots : Asked → (ℕ → Spot) → (ℕ → ℕ) → ℕ → Spot
bound_spots asked spots room = bound_by asked (goals asked spots room) spots

-- how many pages of the span are to go and pass the test
abbrev pub astray_pages : (Option ℕ → Spot → Bool) → Asked → (ℕ → Option ℕ) → (ℕ → Spot) → ℕ
astray_pages test asked goal spots = count_pages (λ page. strays asked page (spots page)
    && test (goal page) (spots page)) 0 (2 ^ 35)

-- the pages went, and this is what is told of it
pub record IsBound (asked : Asked) (spots : ℕ → Spot) (given : ℕ → ℕ) (after : ℕ → Spot)
    (rooms : Rooms) (told : Bound) : Type 0 where
  pub pages : (page : ℕ) → after page ≡ bound_spots asked spots given page
  pub room : AreRooms rooms (room_before asked spots given (2 ^ 35))
  pub moved : told.moved ≡ astray_pages is_sent asked (goals asked spots given) spots
  pub left : told.left ≡ astray_pages is_kept asked (goals asked spots given) spots
