-- What each change of pages comes to, and where pages lie after it. `lack` says what it lacked.
use Rattle.std.specs.Prelude.{ℕ, ◌==◌, Bool, true, false, Option, Some, None, Result}
use Rattle.std.specs.Prelude.{Ok, Err}
use Rattle.std.specs.Prelude.{if◌then◌else◌}
use Rattle.numa_mask.specs.NodeSet.{both}
use Rattle.numa_space.specs.History.{page_of, page_count}
use Rattle.numa_placed.specs.Refusals.{first_of, lacks_node, migrate_cause, move_cause, state_cause}
use Rattle.numa_placed.specs.Shifts.{endless, first_of as first_move, is_short, room_cause}
use Rattle.numa_placed.specs.Shifts.{room_moved}
use Rattle.numa_machine.specs.Machine.{Hardware}
use Rattle.numa_maps.specs.Residents.{Kept, placed_at}
use Rattle.numa_requests.specs.declared.placement.Placement.{Placement}
use Rattle.numa_placed.specs.Spots.{changed_spots, forgotten_spot, stated_beside, stated_spot}
use Rattle.numa_placed.specs.Spots.{too_many}
use Rattle.numa_placed.specs.Astray.{strict_cause}
use Rattle.numa_requests.specs.declared.page_refusal.MoveRefusal.{MoveRefusal}
use Rattle.numa_requests.specs.declared.page_refusal.MoveRefusal.TheVariants as move
use Rattle.numa_requests.specs.declared.page_refusal.PlacedRefusal.{PlacedRefusal}
use Rattle.numa_requests.specs.declared.page_refusal.PlacedRefusal.TheVariants as cause
use Rattle.numa_placed.specs.declared.spot.Spot.{Spot}
use Rattle.numa_placed.specs.declared.spot.Spot.TheVariants.{Nowhere, Stated}
use Rattle.numa_page_state.specs.declared.shift.Shift.{Shift}
use Rattle.numa_page_state.specs.Lying.{Ground, Lying, Motion, OfNodes, Told, motion, still}
use Rattle.numa_page_state.specs.Lying.{with_held, with_motion, with_spots}

-- what a change lacked: nothing; room for the runs of its pages, which it can lack only where
-- these are too many, though it needn't: pages that a policy placed in turn are kept as one run; or
-- memory
pub data Lack : Type 0 where
  Enough : Lack
  Crowded : Lack
  Starved : Lack

abbrev pub is_starved : Lack → Bool
is_starved Enough = false
is_starved Crowded = false
is_starved Starved = true

-- what was done, or why it was refused, and the pages after it
abbrev pub Done : Type 0 → Type 0 → Type 0
Done A Cause = Result A Cause × Lying

-- it was done, and nothing is to be said of it
abbrev pub done_with : {Cause : Type 0} → Lying → Done (Unit {0}) Cause
done_with at = (Ok tt, at)

-- ---- refusals

-- what was lacked, by what is told of it
abbrev pub lack_told : PlacedRefusal → Lack
lack_told cause.TooManyRuns = Crowded
lack_told cause.NoMemory = Starved
lack_told _ = Enough

abbrev pub refused_with : {A : Type 0} → PlacedRefusal → Lying → Done A PlacedRefusal
refused_with why at = (Err why, at)

-- too many runs, or lack of memory, where nothing else stands against a call: it is refused for its
-- runs only where the pages would lie in too many
abbrev pub lack_of : Lack → (ℕ → Spot) → Option PlacedRefusal
lack_of Enough after = None
lack_of Crowded after = if too_many after then Some cause.TooManyRuns else None
lack_of Starved after = Some cause.NoMemory

abbrev pub cause_by : Lack → Option PlacedRefusal → (ℕ → Spot) → Option PlacedRefusal
cause_by lack first after = first_of first (lack_of lack after)

abbrev pub unless_refused : {A : Type 0} → Option PlacedRefusal → Lying → Done A PlacedRefusal
    → Done A PlacedRefusal
unless_refused None at done = done
unless_refused (Some why) at outcome = refused_with why at

-- ---- at START LENGTH NODE

abbrev pub at_spots : Ground → ℕ → ℕ → ℕ → (ℕ → Spot) → ℕ → Spot
at_spots basis start bytes node spots =
    stated_beside basis.mapped basis.kept (page_of start) (page_count bytes) node spots

-- more pages would come to the node than have room there, once a line says a room
abbrev pub is_short_in : Option (ℕ → ℕ) → (ℕ → Spot) → (ℕ → Spot) → ℕ → Bool
is_short_in None before after node = false
is_short_in (Some room) before after node = is_short room before after node

-- lack of room, runs or memory, where nothing else stands against it
abbrev pub short_or_lack : Lack → Bool → (ℕ → Spot) → Option PlacedRefusal
short_or_lack Enough short after = if short then Some cause.NoRoom else None
short_or_lack Crowded short after =
    if short then Some cause.NoRoom else lack_of Crowded after
short_or_lack Starved short after = Some cause.NoMemory

abbrev pub at_cause : Lack → Ground → ℕ → ℕ → ℕ → Lying → Option PlacedRefusal
at_cause lack basis start bytes node at = first_of
    (state_cause basis.machine start bytes node) (short_or_lack lack
    (is_short_in at.room at.spots (at_spots basis start bytes node at.spots) node)
    (at_spots basis start bytes node at.spots))

abbrev pub at_outcome : Lack → Ground → ℕ → ℕ → ℕ → Lying → Done (Unit {0}) PlacedRefusal
at_outcome lack basis start bytes node at = unless_refused
    (at_cause lack basis start bytes node at) at
    (done_with (with_spots (at_spots basis start bytes node at.spots) at))

-- ---- room NODE PAGES

-- the rooms, once a line says one
abbrev pub rooms_of : Option (ℕ → ℕ) → ℕ → ℕ
rooms_of None node = endless
rooms_of (Some room) node = room node

abbrev pub room_outcome : Hardware → ℕ → ℕ → Lying → Done (Unit {0}) PlacedRefusal
room_outcome machine node pages at =
    if lacks_node machine node then refused_with cause.NoSuchNode at
    else done_with (record at {
      room = Some (λ other. if other == node then pages else rooms_of at.room other);
    })

-- ---- migrate FROM TO

-- where no node fills, a move wants no memory
abbrev pub lack_in : Option (ℕ → ℕ) → Lack → (ℕ → Spot) → Option PlacedRefusal
lack_in None lack after = None
lack_in (Some room) lack after = lack_of lack after

-- how many pages a move took along, and left
abbrev pub shift_of : Told → Shift
shift_of told = record { moved = told.moved; left = told.left }

abbrev pub moved_outcome : Lack → Kept → Motion → Option PlacedRefusal → Lying
    → Done Shift PlacedRefusal
moved_outcome lack kept done first at = unless_refused
    (first_of first (lack_in at.room lack done.spots)) at
    (Ok (shift_of (with_held kept done.told)), with_motion kept at done)

abbrev pub migrate_outcome : Lack → Ground → ℕ → ℕ → Lying → Done Shift PlacedRefusal
migrate_outcome lack basis from to at = moved_outcome lack basis.kept
    (motion at.room at.spots from (both to basis.allowed)) (migrate_cause basis.allowed to) at

-- pages leave one set of nodes for another, whatever nodes are allowed
abbrev pub along_outcome : Lack → Kept → ℕ → ℕ → Lying → Done Shift PlacedRefusal
along_outcome lack kept old new at = moved_outcome lack kept
    (motion at.room at.spots old new) None at

-- ---- move ADDR NODE

abbrev pub move_lack_told : MoveRefusal → Lack
move_lack_told move.TooManyRuns = Crowded
move_lack_told move.NoMemory = Starved
move_lack_told _ = Enough

abbrev pub room_cause_in : Option (ℕ → ℕ) → ℕ → Spot → Option MoveRefusal
room_cause_in None node spot = None
room_cause_in (Some room) node spot = room_cause room node spot

abbrev pub move_lack_of : Lack → (ℕ → Spot) → Option MoveRefusal
move_lack_of Enough after = None
move_lack_of Crowded after = if too_many after then Some move.TooManyRuns else None
move_lack_of Starved after = Some move.NoMemory

abbrev pub move_spots : ℕ → ℕ → (ℕ → Spot) → ℕ → Spot
move_spots page node spots = changed_spots page 1 (stated_spot node) spots

-- the first cause of all
abbrev pub move_cause_by : Lack → Ground → ℕ → ℕ → Lying → Option MoveRefusal
move_cause_by lack basis page node at = first_move
    (first_move (move_cause basis.machine basis.allowed node (basis.mapped page)
    (at.spots page)) (room_cause_in at.room node (at.spots page)))
    (move_lack_of lack (move_spots page node at.spots))

abbrev pub room_moved_in : Option (ℕ → ℕ) → ℕ → Spot → Option (ℕ → ℕ)
room_moved_in None node spot = None
room_moved_in (Some room) node spot = Some (room_moved room node spot)

-- what is told of one page
abbrev pub told_of : ℕ → Spot → Told
told_of node Nowhere = still
told_of node (Stated from) = if from == node then still
    else record {
      moved = 1;
      left = 0;
      from = λ other. if other == from then 1 else 0;
      to = λ other. node;
    }

abbrev pub move_unless : Option MoveRefusal → ℕ → ℕ → Lying → Done (Unit {0}) MoveRefusal
move_unless (Some why) page node at = (Err why, at)
move_unless None page node at = done_with (record at {
  spots = move_spots page node at.spots;
  room = room_moved_in at.room node (at.spots page);
  last = OfNodes (told_of node (at.spots page));
})

-- why a page in a frame of a node can't be on another
abbrev pub frame_cause : ℕ → ℕ → Option MoveRefusal
frame_cause node from = if from == node then None else Some move.NoRoom

-- why a page that keeps a frame of a node may not move: what stands against any page that lies on
-- the node, or else that it stays in its frame
abbrev pub held_cause : Ground → ℕ → ℕ → ℕ → Option MoveRefusal
held_cause basis page node from = first_move
    (move_cause basis.machine basis.allowed node (basis.mapped page) (Stated from))
    (frame_cause node from)

-- a page that keeps a frame stays there
abbrev pub held_move_unless : Option MoveRefusal → Lying → Done (Unit {0}) MoveRefusal
held_move_unless (Some why) at = (Err why, at)
held_move_unless None at = done_with (record at { last = OfNodes still })

abbrev pub move_where : Option Placement → Lack → Ground → ℕ → ℕ → Lying
    → Done (Unit {0}) MoveRefusal
move_where None lack basis page node at =
    move_unless (move_cause_by lack basis page node at) page node at
move_where (Some placement) lack basis page node at =
    held_move_unless (held_cause basis page node placement.node) at

abbrev pub move_outcome : Lack → Ground → ℕ → ℕ → Lying → Done (Unit {0}) MoveRefusal
move_outcome lack basis address node at = move_where
    (placed_at basis.kept (page_of address)) lack basis (page_of address) node at

-- ---- what commands of the process do to pages

-- where the allowed nodes have changed, pages follow them, if they are to and memory serves
abbrev pub follow_unless : Option PlacedRefusal → Kept → Motion → Lying → Lying
follow_unless None kept done at = with_motion kept at done
follow_unless (Some why) kept done at = record at { last = OfNodes still }

abbrev pub followed_where : Bool → Lack → ℕ → ℕ → Kept → Lying → Lying
followed_where false lack old new kept at = record at { last = OfNodes still }
followed_where true lack old new kept at = follow_unless
    (lack_in at.room lack (motion at.room at.spots old new).spots) kept
    (motion at.room at.spots old new) at

abbrev pub followed : Lack → ℕ → ℕ → Kept → Lying → Lying
followed lack old new kept at = followed_where at.follows lack old new kept at

-- nothing is stated any more of the pages of a span
abbrev pub forgotten : ℕ → ℕ → (ℕ → Spot) → ℕ → Spot
forgotten start bytes spots =
    changed_spots (page_of start) (page_count bytes) forgotten_spot spots

-- whether pages of a span were stated to lie somewhere: then they lie astray of an empty list
abbrev pub is_astray_cause : Option PlacedRefusal → Bool
is_astray_cause (Some cause.Astray) = true
is_astray_cause _ = false

abbrev pub has_stated : (ℕ → Spot) → ℕ → ℕ → Bool
has_stated spots start bytes = is_astray_cause (strict_cause spots start bytes 0)
