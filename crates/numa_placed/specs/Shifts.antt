-- Moves where nodes have room for so many more pages each (mm/mempolicy.c, do_migrate_pages). They
-- go node by node. A node that fills ends a move: the pages that found no room stay, and so do
-- those of all nodes that were still to go.
use Rattle.std.specs.Prelude.{◌≡◌, ℕ, zero, suc, ◌+◌, ◌-◌, ◌<◌, ◌==◌, ◌&&◌, Bool, true, false}
use Rattle.std.specs.Prelude.{not, nat_lt, min, List, slice_index, Option, Some, None}
use Rattle.std.specs.Prelude.{if◌then◌else◌}
use Rattle.numa_mask.specs.NodeSet.{has}
use Rattle.numa_ranges.specs.Counts.{count_pages}
use Rattle.numa_placed.specs.Moves.{AreTargets, moved_node}
use Rattle.numa_placed.specs.Spots.{is_on, pages_where}
use Rattle.numa_placed.specs.declared.moved.Moved.{Moved}
use Rattle.numa_placed.specs.declared.rooms.Rooms.{Rooms}
use Rattle.numa_requests.specs.declared.page_refusal.MoveRefusal.{MoveRefusal}
use Rattle.numa_requests.specs.declared.page_refusal.MoveRefusal.TheVariants.{NoRoom}
use Rattle.numa_placed.specs.declared.spot.Spot.{Spot}
use Rattle.numa_placed.specs.declared.spot.Spot.TheVariants.{Nowhere, Stated}

-- ---- rooms

-- the room of a node that never fills
abbrev pub endless : ℕ
endless = 18446744073709551615

-- how many more pages each node takes
abbrev pub room_of : Rooms → ℕ → ℕ
room_of rooms node = slice_index rooms.pages node

-- the rooms are these
abbrev pub AreRooms : Rooms → (ℕ → ℕ) → Type 0
AreRooms rooms room = (node : ℕ) → node < 256 → room_of rooms node ≡ room node

-- what is left of a room that pages take, and what it is once pages left
abbrev pub less_room : ℕ → ℕ → ℕ
less_room room pages = if room == endless then room else room - pages

abbrev pub more_room : ℕ → ℕ → ℕ
more_room room pages = min (room + pages) endless

-- the rooms once pages went from one node to another
abbrev pub room_after : (ℕ → ℕ) → ℕ → ℕ → ℕ → ℕ → ℕ
room_after room from to pages node =
    if node == to then less_room (room node) pages
    else if node == from then more_room (room node) pages
    else room node

-- ---- the order

-- a node that is still to go, and whose pages go to another
abbrev pub may_go : (ℕ → ℕ) → (ℕ → Bool) → ℕ → Bool
may_go go waits node = waits node && not (go node == node)

-- and that one isn't still to go
abbrev pub is_clear : (ℕ → ℕ) → (ℕ → Bool) → ℕ → Bool
is_clear go waits node = may_go go waits node && not (waits (go node))

abbrev pub later_of : Bool → ℕ → Option ℕ → Option ℕ
later_of true node last = Some node
later_of false node last = last

-- among so many nodes from one on: the first whose pages go to a node that isn't still to go, else
-- the last whose pages go
unfoldable pub source_from : (ℕ → ℕ) → (ℕ → Bool) → Option ℕ → ℕ → ℕ → Option ℕ
source_from go waits last node zero = last
source_from go waits last node (suc n) = if is_clear go waits node then Some node
    else source_from go waits (later_of (may_go go waits node) node last) (node + 1) n

-- ---- node by node

-- how far a move is: the nodes still to go, the rooms, how many pages of each node went, and
-- whether some found no room
pub record Going : Type 0 where
  pub waits : ℕ → Bool
  pub room : ℕ → ℕ
  pub gone : ℕ → ℕ
  pub full : Bool

-- before the first node goes
abbrev pub going_from : ℕ → (ℕ → ℕ) → Going
going_from old room =
    record { waits = has old; room = room; gone = λ node. 0; full = false }

-- as many pages of a node go as have room
abbrev pub step : ℕ → ℕ → ℕ → Going → Going
step pages source target going = record {
  waits = λ node. going.waits node && not (node == source);
  room = room_after going.room source target (min pages (going.room target));
  gone = λ node. if node == source then min pages (going.room target) else going.gone node;
  full = nat_lt (going.room target) pages;
}

-- the next node goes, if there is one, and then the rest
abbrev pub stepped : Option ℕ → Going → (ℕ → Going) → Going
stepped None going rest = going
stepped (Some source) going rest = rest source

-- at most so many nodes go
unfoldable pub steps : ℕ → (ℕ → ℕ) → (ℕ → ℕ) → Going → Going
steps zero go count going = going
steps (suc n) go count going = if going.full then going
    else stepped (source_from go going.waits None 0 256) going
    (λ source. steps n go count (step (count source) source (go source) going))

-- ---- pages

abbrev pub is_stated : ℕ → Spot → Bool
is_stated = is_on

-- how many pages are stated to lie on a node
abbrev pub stated_on : (ℕ → Spot) → ℕ → ℕ
stated_on spots node = pages_where (is_stated node) spots

-- how many of them are below a page
abbrev pub stated_below : (ℕ → Spot) → ℕ → ℕ → ℕ
stated_below spots page node = count_pages (λ p. is_stated node (spots p)) 0 page

-- a page once so many of each node went, by how many of each are below it
abbrev pub shifted_spot : (ℕ → ℕ) → (ℕ → ℕ) → (ℕ → ℕ) → Spot → Spot
shifted_spot go gone below Nowhere = Nowhere
shifted_spot go gone below (Stated node) =
    if nat_lt (below node) (gone node) then Stated (go node) else Stated node

-- the lowest pages of each node went
abbrev pub shifted_spots : (ℕ → ℕ) → (ℕ → ℕ) → (ℕ → Spot) → ℕ → Spot
shifted_spots go gone spots page = shifted_spot go gone (stated_below spots page) (spots page)

-- ---- a move

-- where so many pages of each node leave one set of nodes for another
abbrev pub counted_shift : (ℕ → ℕ) → ℕ → ℕ → (ℕ → ℕ) → Going
counted_shift count old new room = steps 256 (moved_node old new) count (going_from old room)

-- where pages leave one set of nodes for another
abbrev pub shift_of : (ℕ → Spot) → ℕ → ℕ → (ℕ → ℕ) → Going
shift_of spots old new room = counted_shift (stated_on spots) old new room

-- where they lie then
abbrev pub shifted : (ℕ → Spot) → ℕ → ℕ → (ℕ → ℕ) → ℕ → Spot
shifted spots old new room =
    shifted_spots (moved_node old new) (shift_of spots old new room).gone spots

-- the sum over the nodes below one
unfoldable pub sum_below : ℕ → (ℕ → ℕ) → ℕ
sum_below zero f = 0
sum_below (suc n) f = sum_below n f + f n

-- how many stated pages of a node have another to go to, and stay
abbrev pub stay_on : (ℕ → ℕ) → (ℕ → ℕ) → (ℕ → ℕ) → ℕ → ℕ
stay_on go count gone node = if go node == node then 0 else count node - gone node

abbrev pub ArePages : List ℕ → (ℕ → ℕ) → Type 0
ArePages list pages = (node : ℕ) → node < 256 → slice_index list node ≡ pages node

-- what is told of it
pub record IsShiftTally (spots : ℕ → Spot) (old new : ℕ) (gone : ℕ → ℕ) (told : Moved) :
    Type 0 where
  pub moved : told.moved ≡ sum_below 256 gone
  pub left : told.left ≡ sum_below 256 (stay_on (moved_node old new) (stated_on spots) gone)
  pub from : ArePages told.from gone
  pub to : AreTargets told.to (moved_node old new)

-- the lowest pages of each node that goes went where its pages go, as far as there was room
pub record IsShift (spots : ℕ → Spot) (old new : ℕ) (given : ℕ → ℕ) (after : ℕ → Spot)
    (rooms : Rooms) (told : Moved) : Type 0 where
  pub pages : (page : ℕ) → after page ≡ shifted spots old new given page
  pub room : AreRooms rooms (shift_of spots old new given).room
  pub tally : IsShiftTally spots old new (shift_of spots old new given).gone told

-- ---- between two moments

-- a room once another number of pages without a frame lies there than before
abbrev pub room_between : ℕ → ℕ → ℕ → ℕ
room_between room before after =
    if room == endless then endless else min (room + before - after) endless

-- the rooms once pages without a frame lie otherwise: one that came to a node took one, and one
-- that left it gave it back
abbrev pub rooms_between : (ℕ → ℕ) → (ℕ → Spot) → (ℕ → Spot) → ℕ → ℕ
rooms_between room before after node =
    room_between (room node) (stated_on before node) (stated_on after node)

-- more pages would come to a node than find room
abbrev pub is_short : (ℕ → ℕ) → (ℕ → Spot) → (ℕ → Spot) → ℕ → Bool
is_short room before after node =
    nat_lt (room node + stated_on before node) (stated_on after node)

-- ---- one page

-- why a page that lies here may not go to a node, once nothing else stands against it
abbrev pub room_cause : (ℕ → ℕ) → ℕ → Spot → Option MoveRefusal
room_cause room node Nowhere = if room node == 0 then Some NoRoom else None
room_cause room node (Stated from) =
    if not (from == node) && room node == 0 then Some NoRoom else None

-- a page that goes there finds room
abbrev pub HasRoom : (ℕ → ℕ) → ℕ → Spot → Type 0
HasRoom room node Nowhere = 0 < room node
HasRoom room node (Stated from) = (from == node) ≡ false → 0 < room node

abbrev pub first_of : Option MoveRefusal → Option MoveRefusal → Option MoveRefusal
first_of None other = other
first_of (Some cause) other = Some cause

-- the rooms once it went there
abbrev pub room_moved : (ℕ → ℕ) → ℕ → Spot → ℕ → ℕ
room_moved room node Nowhere other =
    if other == node then less_room (room other) 1 else room other
room_moved room node (Stated from) other =
    if from == node then room other else room_after room from node 1 other
