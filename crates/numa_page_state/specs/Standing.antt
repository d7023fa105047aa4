-- What is kept beside a script, and which pages it stands for.
use Rattle.std.specs.Prelude.{◌≡◌, ℕ, ◌<◌, ◌^◌, true, false, List, ◌∷◌, Option, Some}
use Rattle.std.specs.Prelude.{None}
use Rattle.std.specs.Prelude.{slice_index}
use Rattle.std.specs.Prelude.{IsSome, MatchResult, Result, Ok, Err, is_some}
use Rattle.numa_maps.specs.Residents.{Kept}
use Rattle.numa_placed.specs.Binds.{Asked, asked_of as asked_by, room_before}
use Rattle.numa_placed.specs.Laid.{Laid}
use Rattle.numa_placed.specs.Refusals.{first_of}
use Rattle.numa_placed.specs.Shifts.{ArePages, AreRooms}
use Rattle.numa_placed.specs.Spots.{spot_at}
use Rattle.numa_placed.specs.declared.moved.Moved.{Moved}
use Rattle.numa_placed.specs.declared.rooms.Rooms.{Rooms}
use Rattle.numa_requests.specs.declared.page_refusal.MoveRefusal.{MoveRefusal}
use Rattle.numa_requests.specs.declared.page_refusal.PlacedRefusal.{PlacedRefusal}
use Rattle.numa_placed.specs.declared.spot.Spot.{Spot}
use Rattle.numa_space.specs.Refusals.{refusal_of}
use Rattle.numa_space.specs.Standing.{SpaceState, StandsFor}
use Rattle.numa_requests.specs.declared.command.Command.{Command}
use Rattle.numa_page_state.specs.Lying.{Arrival, Ground, LastMove, Lying, Motion, OfNodes}
use Rattle.numa_page_state.specs.Lying.{OfPages, Process, Sent}
use Rattle.numa_page_state.specs.Lying.{Told, motion, nothing, still, with_held, with_spots}
use Rattle.numa_page_state.specs.Outcomes.{at_cause, at_spots, forgotten, has_stated}
use Rattle.numa_page_state.specs.Outcomes.{Enough, Lack, is_starved, lack_in, lack_of, lack_told}
use Rattle.numa_page_state.specs.Outcomes.{move_lack_told}
use Rattle.numa_page_state.specs.Outcomes.{move_cause_by, move_spots, room_moved_in}
use Rattle.numa_page_state.specs.Sending.{asked_of, command_of, flow_between, rooms_sent}
use Rattle.numa_page_state.specs.Sending.{sent_in}
use Rattle.numa_page_state.specs.Sending.{sent_spots}
use Rattle.numa_page_state.specs.Touching.{arrival_of, touch_cause, touched_by}
use Rattle.numa_page_state.specs.declared.state.PageState.{PageState}
use Rattle.numa_page_state.specs.declared.arrived.Arrived.{Arrived}
use Rattle.numa_page_state.specs.declared.last.Departures.{Departures}
use Rattle.numa_page_state.specs.declared.last.Last.{Last}
use Rattle.numa_page_state.specs.declared.last.Last.TheVariants as went
use Rattle.numa_page_state.specs.declared.shift.Shift.{Shift}
use Rattle.numa_page_state.specs.declared.sending.Rebinding.{Rebinding}
use Rattle.numa_page_state.specs.declared.sending.Sending.{Sending}
use Rattle.numa_page_state.specs.declared.sending.Toucher.{Toucher}
use Rattle.numa_page_state.specs.declared.staying.Front.{Front}

-- how many more pages each node takes, once a line says so
abbrev pub HaveRoom : Option Rooms → Option (ℕ → ℕ) → Type 0
HaveRoom None None = Unit {0}
HaveRoom (Some rooms) (Some room) = AreRooms rooms room
HaveRoom _ _ = ⊥

-- what a move did
pub record TellsOf (done : Moved) (told : Told) : Type 0 where
  pub moved : done.moved ≡ told.moved
  pub left : done.left ≡ told.left
  pub from : (node : ℕ) → node < 256 → slice_index done.from node ≡ told.from node
  pub to : (node : ℕ) → node < 256 → slice_index done.to node ≡ told.to node

-- a list has the node to which the pages of each go
abbrev pub AreGone : List ℕ → (ℕ → ℕ) → Type 0
AreGone to go = (node : ℕ) → node < 256 → slice_index to node ≡ go node

-- as it is told
abbrev pub told_in : Moved → Told
told_in moved = record {
  moved = moved.moved;
  left = moved.left;
  from = slice_index moved.from;
  to = slice_index moved.to;
}

-- pages lay and lie so that as many went
pub record SentAs (done : Departures) (sent : Sent) : Type 0 where
  pub moved : done.moved ≡ sent.moved
  pub left : done.left ≡ sent.left
  pub flow : (from to : ℕ) → flow_between (spot_at done.before) (spot_at done.after) from to
      ≡ sent.flow from to

-- as it is told
abbrev pub sent_by : Departures → Sent
sent_by done = record {
  moved = done.moved;
  left = done.left;
  flow = flow_between (spot_at done.before) (spot_at done.after);
}

abbrev pub LastAs : Last → LastMove → Type 0
LastAs (went.Nodes moved) (OfNodes told) = TellsOf moved told
LastAs (went.Pages done) (OfPages sent) = SentAs done sent
LastAs _ _ = ⊥

-- the last move went by nodes: so many pages moved, and were left
abbrev pub IsLastShift : Last → Shift → Type 0
IsLastShift (went.Nodes moved) shift = (moved.moved ≡ shift.moved) × (moved.left ≡ shift.left)
IsLastShift (went.Pages done) shift = ⊥

-- what the last first touches did
pub record ArrivedAs (done : Arrived) (arrival : Arrival) : Type 0 where
  pub placed : done.placed ≡ arrival.placed
  pub exhausted : done.exhausted ≡ arrival.exhausted
  pub on : ArePages done.on arrival.on

-- as it is told
abbrev pub arrived_in : Arrived → Arrival
arrived_in done = record {
  placed = done.placed;
  exhausted = done.exhausted;
  on = slice_index done.on;
}

pub record LiesAs (beside : PageState) (lying : Lying) : Type 0 where
  pub spots : (page : ℕ) → spot_at beside.placed page ≡ lying.spots page
  pub room : HaveRoom beside.rooms lying.room
  pub follows : beside.follows ≡ lying.follows
  pub last : LastAs beside.last lying.last
  pub arrived : ArrivedAs beside.arrived lying.arrived

-- pages lie where these spots say
abbrev pub LieThere : PageState → (ℕ → Spot) → Type 0
LieThere beside spots = (page : ℕ) → spot_at beside.placed page ≡ spots page

-- ---- moves

-- pages moved from one set of nodes to another
pub record Moves (new : Laid) (rooms : Option Rooms) (moved : Moved)
    (done : Motion) : Type 0 where
  pub spots : (page : ℕ) → spot_at new page ≡ done.spots page
  pub room : HaveRoom rooms done.room
  pub told : TellsOf moved done.told
  pub few : moved.left < 2 ^ 62

-- they did, unless this stands against it, or they lack runs or memory; then all is as it was
abbrev pub Migrates : Laid → Option Rooms → ℕ → ℕ → Option PlacedRefusal
    → Result Moved PlacedRefusal → Laid → Option Rooms → Type 0
Migrates old rooms from to first result new rooms_then = (spots : ℕ → Spot)
    (room : Option (ℕ → ℕ)) → ((page : ℕ) → spot_at old page ≡ spots page)
    → HaveRoom rooms room → MatchResult result
    (λ moved. (first_of first (lack_in room Enough (motion room spots from to).spots) ≡ None)
    × Moves new rooms_then moved (motion room spots from to))
    (λ refusal. (first_of first (lack_in room (lack_told refusal)
    (motion room spots from to).spots) ≡ Some refusal) × (new ≡ old) × (rooms_then ≡ rooms))

-- pages followed, unless they lacked runs or memory, and what that did is kept, with those that
-- stayed in their frames
abbrev pub Followed : Laid → Option Rooms → ℕ → ℕ → Laid → Option Rooms → (Kept → Type 0) → Last
    → Type 0
Followed old rooms from to new rooms_then Keeps last = (result : Result Moved PlacedRefusal)
    × Migrates old rooms from to None result new rooms_then
    × MatchResult result (λ moved. (told : Told) (kept : Kept) → TellsOf moved told → Keeps kept
    → LastAs last (OfNodes (with_held kept told))) (λ refusal. LastAs last (OfNodes still))

-- a span was stated to lie on a node, unless something stands against it, or it lacks runs or
-- memory
abbrev pub States : Laid → Option Rooms → Ground → ℕ → ℕ → ℕ
    → Result (Unit {0}) PlacedRefusal → Laid → Option Rooms → Type 0
States old rooms basis start bytes node result new rooms_then = (at : Lying)
    → ((page : ℕ) → spot_at old page ≡ at.spots page) → HaveRoom rooms at.room
    → MatchResult result
    (λ done. (at_cause Enough basis start bytes node at ≡ None)
    × ((page : ℕ) → spot_at new page ≡ at_spots basis start bytes node at.spots page)
    × HaveRoom rooms_then (with_spots (at_spots basis start bytes node at.spots) at).room)
    (λ refusal. (at_cause (lack_told refusal) basis start bytes node at ≡ Some refusal)
    × (new ≡ old) × (rooms_then ≡ rooms))

-- pages of a span were touched first, unless something stands against it, or they lack runs or
-- memory
abbrev pub Touches : Laid → Option Rooms → Ground → ℕ → ℕ → ℕ → ℕ
    → Result Arrived PlacedRefusal → Laid → Option Rooms → Type 0
Touches old rooms basis start bytes task cpu result new rooms_then = (at : Lying)
    → ((page : ℕ) → spot_at old page ≡ at.spots page) → HaveRoom rooms at.room
    → MatchResult result
    (λ arrived. (touch_cause Enough basis start bytes task cpu at ≡ None)
    × ((page : ℕ) → spot_at new page
    ≡ sent_spots (touched_by basis start bytes task cpu) at page)
    × HaveRoom rooms_then (rooms_sent (touched_by basis start bytes task cpu) at.spots at.room)
    × ArrivedAs arrived (arrival_of (touched_by basis start bytes task cpu) at))
    (λ refusal. (touch_cause (lack_told refusal) basis start bytes task cpu at ≡ Some refusal)
    × (new ≡ old) × (rooms_then ≡ rooms))

-- a page moved to a node, unless something stands against it, or it lacks runs or memory
abbrev pub MovesPage : Laid → Option Rooms → Ground → ℕ → ℕ
    → Result (Unit {0}) MoveRefusal → Laid → Option Rooms → Type 0
MovesPage old rooms basis page node result new rooms_then = (at : Lying)
    → ((other : ℕ) → spot_at old other ≡ at.spots other) → HaveRoom rooms at.room
    → MatchResult result
    (λ done. (move_cause_by Enough basis page node at ≡ None)
    × ((other : ℕ) → spot_at new other ≡ move_spots page node at.spots other)
    × HaveRoom rooms_then (room_moved_in at.room node (at.spots page)) × (node < 256))
    (λ refusal. (move_cause_by (move_lack_told refusal) basis page node at ≡ Some refusal)
    × (new ≡ old) × (rooms_then ≡ rooms))

-- ---- mbind .. move

-- the space with a policy that nothing refuses
pub record HasPolicy (space : SpaceState) (history : List Command) (said : Rebinding)
    (after : SpaceState) : Type 0 where
  pub free : refusal_of space.machine space.bounds history (command_of said) ≡ None
  pub stands : StandsFor after (command_of said ∷ history)
  pub machine : after.machine ≡ space.machine

-- what its pages are asked, by that space
abbrev pub asked_for : SpaceState → Rebinding → Toucher → Asked
asked_for space said toucher =
    asked_by space said.start said.length said.spec.mask toucher.task toucher.cpu

-- the rooms are those that a page of the span finds
pub record IsFront (asked : Asked) (spots : ℕ → Spot) (room : ℕ → ℕ) (front : Front) : Type 0
  where
    pub rooms : AreRooms front.rooms (room_before asked spots room front.page)

-- the pages went
pub record HasSent (done : Sending) (kept : Kept) (asked : Asked) (at : Lying) : Type 0 where
  pub spots : (page : ℕ) → spot_at done.placed page ≡ sent_spots asked at page
  pub copy : done.copy ≡ done.placed
  pub room : HaveRoom done.rooms (rooms_sent asked at.spots at.room)
  pub moved : done.moved ≡ (sent_in kept asked at).moved
  pub left : done.left ≡ (sent_in kept asked at).left

-- where pages go with a policy, or why they don't
abbrev pub Sends : Process → Rebinding → Toucher → Lying
    → Result (Option Sending) PlacedRefusal → Type 0
Sends process said toucher at (Ok None) = is_some (refusal_of process.machine process.bounds
    process.history (command_of said)) ≡ true
Sends process said toucher at (Ok (Some done)) = (refusal_of process.machine process.bounds
    process.history (command_of said) ≡ None)
    × HasSent done process.kept (asked_of process said toucher) at
Sends process said toucher at (Err why) = is_starved (lack_told why) ≡ false
    → (refusal_of process.machine process.bounds process.history (command_of said) ≡ None)
    × (lack_of (lack_told why) (sent_spots (asked_of process said toucher) at) ≡ Some why)

-- ---- what is kept

-- before the first line about pages nothing is kept
abbrev pub Lies : Option PageState → Lying → Type 0
Lies None lying = lying ≡ nothing
Lies (Some beside) lying = LiesAs beside lying

-- nothing is stated any more of a span, where something was; else all stays
abbrev pub Forgets : Option PageState → ℕ → ℕ → Result (Option Laid) PlacedRefusal
    → Type 0
Forgets beside start bytes (Ok None) =
    (lying : Lying) → Lies beside lying → has_stated lying.spots start bytes ≡ false
Forgets beside start bytes (Ok (Some after)) = (lying : Lying) → Lies beside lying
    → (has_stated lying.spots start bytes ≡ true) × IsSome beside
    × ((page : ℕ) → spot_at after page ≡ forgotten start bytes lying.spots page)
Forgets beside start bytes (Err why) = (lying : Lying) → Lies beside lying
    → (has_stated lying.spots start bytes ≡ true)
    × (lack_of (lack_told why) (forgotten start bytes lying.spots) ≡ Some why)

-- the pages lie so now, the rooms kept pace, and all else is as it was
abbrev pub Replaces : Option PageState → Laid → Option PageState → Type 0
Replaces old after new = (lying : Lying) (spots : ℕ → Spot) → Lies old lying → IsSome old
    → ((page : ℕ) → spot_at after page ≡ spots page) → Lies new (with_spots spots lying)

-- a change comes to what is done, or to why it is refused, as the outcome says by what it lacked,
-- and the pages lie as it says; where that was memory, this came of it, and nothing has changed
abbrev pub DoesAs : {A : Type 0} → PageState → A → PageState → A → (Lack → Lying → A × Lying)
    → Type 0
DoesAs old done new starved outcome = (lying : Lying) → LiesAs old lying → (lack : Lack)
    × LiesAs new (outcome lack lying).1
    × ((outcome lack lying).0 ≡ done)
    × (is_starved lack ≡ true → (new ≡ old) × (done ≡ starved))
