-- What each change of pages comes to.
use Rattle.std.proofs.Common.{◌≡◌, ℕ, true, false, Option, Some, None, refl, sym}
use Rattle.std.proofs.Common.{ap, subst, ◌∙◌}
use Rattle.std.specs.Prelude.{if◌then◌else◌, ◌==◌, Result, Ok, Err, OnErr}
use Rattle.numa_placed.specs.Laid.{Laid}
use Rattle.numa_placed.specs.Refusals.{first_of, lacks_node}
use Rattle.numa_placed.specs.Shifts.{AreRooms}
use Rattle.numa_placed.specs.Spots.{spot_at}
use Rattle.numa_placed.specs.declared.moved.Moved.{Moved}
use Rattle.numa_requests.specs.declared.page_refusal.MoveRefusal.{MoveRefusal}
use Rattle.numa_requests.specs.declared.page_refusal.MoveRefusal.TheVariants as move
use Rattle.numa_requests.specs.declared.page_refusal.PlacedRefusal.{PlacedRefusal}
use Rattle.numa_requests.specs.declared.page_refusal.PlacedRefusal.TheVariants as cause
use Rattle.numa_placed.specs.declared.rooms.Rooms.{Rooms}
use Rattle.numa_placed.specs.declared.spot.Spot.{Spot}
use Rattle.numa_machine.specs.Machine.{Hardware}
use Rattle.numa_maps.specs.Residents.{Kept}
use Rattle.numa_page_state.specs.Lying.{Ground, Lying, Motion, OfNodes, still, with_held}
use Rattle.numa_page_state.specs.Lying.{with_motion, with_spots}
use Rattle.numa_page_state.specs.Outcomes.{Done, Enough, at_cause, at_outcome, at_spots, done_with}
use Rattle.numa_page_state.specs.Outcomes.{held_move_unless, lack_in, lack_told, move_cause_by}
use Rattle.numa_page_state.specs.Outcomes.{move_lack_told, move_spots, move_unless, moved_outcome}
use Rattle.numa_page_state.specs.Outcomes.{room_moved_in, room_outcome, rooms_of, shift_of}
use Rattle.numa_page_state.specs.Outcomes.{told_of, unless_refused}
use Rattle.numa_page_state.specs.Standing.{ArrivedAs, HaveRoom, LastAs, LiesAs, Moves}
use Rattle.numa_page_state.specs.Standing.{States, TellsOf}
use Rattle.numa_page_state.specs.Touching.{populate_outcome, touch_cause, touched_by}
use Rattle.numa_page_state.specs.Touching.{with_touched}
use Rattle.numa_page_state.specs.declared.arrived.Arrived.{Arrived}
use Rattle.numa_page_state.specs.declared.shift.Shift.{Shift}
use Rattle.numa_page_state.specs.declared.state.PageState.{PageState}
use Rattle.numa_page_state.specs.declared.last.Last.{Last}
use Rattle.numa_page_state.specs.declared.last.Last.TheVariants as went
use Rattle.numa_page_state.proofs.Answered.{Answers, denied, done, move-denied}
use Rattle.numa_page_state.proofs.Stating.{states-still}

pub spots-alike : (beside : PageState) (lying : Lying) → LiesAs beside lying
    → spot_at beside.placed ≡ lying.spots
spots-alike beside lying lies = λ i page. lies.spots page i

-- what comes of a change where memory lacks
abbrev pub placed_lack : {A : Type 0} → Result A PlacedRefusal
placed_lack = Err cause.NoMemory

abbrev pub move_lack : Result (Unit {0}) MoveRefusal
move_lack = Err move.NoMemory

-- it was done, and there is nothing to say of it
abbrev pub so_done : {Cause : Type 0} → Result (Unit {0}) Cause
so_done = Ok tt

module _ (old new : PageState) (lying : Lying) (lies : LiesAs old lying) where
  -- the last first touches did the same
  arrived-so : new.arrived ≡ old.arrived → ArrivedAs new.arrived lying.arrived
  arrived-so same =
      subst (λ (a : Arrived). ArrivedAs a lying.arrived) (sym same) lies.arrived

  -- ---- at

  module _ (basis : Ground) (start bytes node : ℕ) where
    abbrev at_so : Lying
    at_so = with_spots (at_spots basis start bytes node lying.spots) lying

    at-done : at_cause Enough basis start bytes node lying ≡ None
        → ((page : ℕ) → spot_at new.placed page ≡ at_so.spots page)
        → HaveRoom new.rooms at_so.room → new.follows ≡ old.follows → new.last ≡ old.last
        → new.arrived ≡ old.arrived → Answers old new so_done placed_lack
        (λ lack. at_outcome lack basis start bytes node lying)
    at-done free spots room follows last arrived =
        done old new so_done placed_lack
        (λ lack. at_outcome lack basis start bytes node lying) at_so
        (ap (λ (c : Option PlacedRefusal). unless_refused c lying (done_with at_so)) free)
        (record {
          spots = spots;
          room = room;
          follows = follows ∙ lies.follows;
          last = subst (λ (m : Last). LastAs m lying.last) (sym last) lies.last;
          arrived = arrived-so arrived;
        })

    at-denied : (refusal : PlacedRefusal)
        → at_cause (lack_told refusal) basis start bytes node lying ≡ Some refusal → new ≡ old
        → Answers old new (Err refusal) placed_lack
        (λ lack. at_outcome lack basis start bytes node lying)
    at-denied refusal cause same =
        denied old new refusal lying
        (λ lack. at_outcome lack basis start bytes node lying)
        (ap (λ (c : Option PlacedRefusal). unless_refused c lying (done_with at_so)) cause) lies
        same

  -- ---- populate

  module _ (basis : Ground) (start bytes task cpu : ℕ) where
    abbrev touched_so : Lying
    touched_so = with_touched (touched_by basis start bytes task cpu) lying

    pub touch-done : touch_cause Enough basis start bytes task cpu lying ≡ None
        → ((page : ℕ) → spot_at new.placed page ≡ touched_so.spots page)
        → HaveRoom new.rooms touched_so.room → ArrivedAs new.arrived touched_so.arrived
        → new.follows ≡ old.follows → new.last ≡ old.last → Answers old new so_done placed_lack
        (λ lack. populate_outcome lack basis start bytes task cpu lying)
    touch-done free spots room arrived follows last =
        done old new so_done placed_lack
        (λ lack. populate_outcome lack basis start bytes task cpu lying) touched_so
        (ap (λ (c : Option PlacedRefusal). unless_refused c lying (done_with touched_so)) free)
        (record {
          spots = spots;
          room = room;
          follows = follows ∙ lies.follows;
          last = subst (λ (m : Last). LastAs m lying.last) (sym last) lies.last;
          arrived = arrived;
        })

    pub touch-denied : (refusal : PlacedRefusal)
        → touch_cause (lack_told refusal) basis start bytes task cpu lying ≡ Some refusal
        → new ≡ old → Answers old new (Err refusal) placed_lack
        (λ lack. populate_outcome lack basis start bytes task cpu lying)
    touch-denied refusal cause same =
        denied old new refusal lying
        (λ lack. populate_outcome lack basis start bytes task cpu lying)
        (ap (λ (c : Option PlacedRefusal). unless_refused c lying (done_with touched_so)) cause)
        lies same

  -- ---- migrate

  abbrev shift_in : Moved → Shift
  shift_in moved = record { moved = moved.moved; left = moved.left }

  module _ (kept : Kept) (motion_here : Motion) (first : Option PlacedRefusal) where
    abbrev moved_so : Done Shift PlacedRefusal
    moved_so = (
      Ok (shift_of (with_held kept motion_here.told)),
      with_motion kept lying motion_here,
    )

    pub moved-done : (before moved : Moved)
        → first_of first (lack_in lying.room Enough motion_here.spots) ≡ None
        → Moves new.placed new.rooms before motion_here
        → TellsOf moved (with_held kept motion_here.told) → new.follows ≡ old.follows
        → new.arrived ≡ old.arrived → new.last ≡ went.Nodes moved
        → Answers old new (Ok (shift_in moved)) placed_lack
        (λ lack. moved_outcome lack kept motion_here first lying)
    moved-done before moved none moves tells follows arrived last =
        done old new (Ok (shift_in moved)) placed_lack
        (λ lack. moved_outcome lack kept motion_here first lying)
        (with_motion kept lying motion_here)
        (ap (λ (c : Option PlacedRefusal). unless_refused c lying moved_so) none
        ∙ (λ i. (
          Ok (record { moved = sym tells.moved i; left = sym tells.left i }),
          with_motion kept lying motion_here,
        )))
        (record {
          spots = moves.spots;
          room = moves.room;
          follows = follows ∙ lies.follows;
          last = subst (λ (m : Last). LastAs m (OfNodes (with_held kept motion_here.told)))
              (sym last) tells;
          arrived = arrived-so arrived;
        })

    pub moved-denied : (refusal : PlacedRefusal)
        → first_of first (lack_in lying.room (lack_told refusal) motion_here.spots)
        ≡ Some refusal → new ≡ old
        → Answers old new (Err refusal) placed_lack
        (λ lack. moved_outcome lack kept motion_here first lying)
    moved-denied refusal cause same =
        denied old new refusal lying
        (λ lack. moved_outcome lack kept motion_here first lying)
        (ap (λ (c : Option PlacedRefusal). unless_refused c lying moved_so) cause) lies same

  -- ---- room

  module _ (machine : Hardware) (node pages : ℕ) where
    pub room-done : (rooms : Rooms) → lacks_node machine node ≡ false
        → ((room : Option (ℕ → ℕ)) → HaveRoom old.rooms room
        → AreRooms rooms (λ other. if other == node then pages else rooms_of room other))
        → new.placed ≡ old.placed → new.rooms ≡ Some rooms → new.follows ≡ old.follows
        → new.last ≡ old.last → new.arrived ≡ old.arrived
        → Answers old new so_done placed_lack
        (λ lack. room_outcome machine node pages lying)
    room-done rooms there limited placed is follows last arrived =
        done old new so_done placed_lack (λ lack. room_outcome machine node pages lying)
        (record lying {
          room = Some (λ other. if other == node then pages else rooms_of lying.room other);
        })
        (rw there refl)
        (record {
          spots = λ page. ap (λ (runs : Laid). spot_at runs page) placed
              ∙ lies.spots page;
          room = subst (λ (r : Option Rooms). HaveRoom r (Some (λ other.
              if other == node then pages else rooms_of lying.room other))) (sym is)
              (limited lying.room lies.room);
          follows = follows ∙ lies.follows;
          last = subst (λ (m : Last). LastAs m lying.last) (sym last) lies.last;
          arrived = arrived-so arrived;
        })

    pub room-denied : lacks_node machine node ≡ true → new ≡ old
        → Answers old new (Err cause.NoSuchNode) placed_lack
        (λ lack. room_outcome machine node pages lying)
    room-denied lacks same =
        denied old new cause.NoSuchNode lying (λ lack. room_outcome machine node pages lying)
        (rw lacks refl) lies same

  -- ---- move

  module _ (basis : Ground) (page node : ℕ) where
    pub move-done : (spot : Spot) (moved : Moved)
        → move_cause_by Enough basis page node lying ≡ None
        → ((other : ℕ) → spot_at new.placed other ≡ move_spots page node lying.spots other)
        → HaveRoom new.rooms (room_moved_in lying.room node (lying.spots page))
        → spot ≡ spot_at old.placed page → TellsOf moved (told_of node spot)
        → new.follows ≡ old.follows → new.arrived ≡ old.arrived → new.last ≡ went.Nodes moved
        → Answers old new so_done move_lack
        (λ lack. move_unless (move_cause_by lack basis page node lying) page node lying)
    move-done spot moved none spots room here told follows arrived last =
        let there : spot ≡ lying.spots page = here ∙ lies.spots page in
        let tells : TellsOf moved (told_of node (lying.spots page)) =
        subst (λ (s : Spot). TellsOf moved (told_of node s)) there told in
        done old new so_done move_lack
        (λ lack. move_unless (move_cause_by lack basis page node lying) page node lying)
        (move_unless None page node lying).1
        (ap (λ (c : Option MoveRefusal). move_unless c page node lying) none)
        (record {
          spots = spots;
          room = room;
          follows = follows ∙ lies.follows;
          last = subst (λ (m : Last). LastAs m (OfNodes (told_of node (lying.spots page))))
              (sym last) tells;
          arrived = arrived-so arrived;
        })

    pub move-refused : (refusal : MoveRefusal)
        → move_cause_by (move_lack_told refusal) basis page node lying ≡ Some refusal → new ≡ old
        → Answers old new (Err refusal) move_lack
        (λ lack. move_unless (move_cause_by lack basis page node lying) page node lying)
    move-refused refusal cause same =
        move-denied old new refusal lying
        (λ lack. move_unless (move_cause_by lack basis page node lying) page node lying)
        (ap (λ (c : Option MoveRefusal). move_unless c page node lying) cause) lies same

  -- ---- a page that keeps a frame

  pub stays-there : (first : Option MoveRefusal) (moved : Moved) → first ≡ None
      → new.placed ≡ old.placed → new.rooms ≡ old.rooms → new.follows ≡ old.follows
      → new.arrived ≡ old.arrived → TellsOf moved still → new.last ≡ went.Nodes moved
      → Answers old new so_done move_lack
      (λ lack. held_move_unless first lying)
  stays-there first moved none placed rooms follows arrived tells last =
      done old new so_done move_lack (λ lack. held_move_unless first lying)
      (record lying { last = OfNodes still })
      (ap (λ (c : Option MoveRefusal). held_move_unless c lying) none)
      (record {
        spots = λ page. ap (λ (runs : Laid). spot_at runs page) placed
            ∙ lies.spots page;
        room = subst (λ (r : Option Rooms). HaveRoom r lying.room) (sym rooms) lies.room;
        follows = follows ∙ lies.follows;
        last = subst (λ (m : Last). LastAs m (OfNodes still)) (sym last) tells;
        arrived = arrived-so arrived;
      })

  pub stays-denied : (first : Option MoveRefusal) (refusal : MoveRefusal)
      → first ≡ Some refusal → new ≡ old
      → Answers old new (Err refusal) move_lack
      (λ lack. held_move_unless first lying)
  stays-denied first refusal cause same =
      done old new (Err refusal) move_lack
      (λ lack. held_move_unless first lying) lying
      (ap (λ (c : Option MoveRefusal). held_move_unless c lying) cause)
      (subst (λ (b : PageState). LiesAs b lying) (sym same) lies)

-- a span is stated to lie on a node, or isn't
pub at-told : (old : PageState) (after : Laid) (rooms : Option Rooms) (basis : Ground)
    (start bytes node : ℕ) (came : Result (Unit {0}) PlacedRefusal)
    → States old.placed old.rooms basis start bytes node came after rooms
    → (lying : Lying) → LiesAs old lying
    → Answers old (record old { placed = after; rooms = rooms }) came placed_lack
    (λ lack. at_outcome lack basis start bytes node lying)
at-told old after rooms basis start bytes node (Ok so) is lying lies =
    let it = is lying lies.spots lies.room in
    at-done old (record old { placed = after; rooms = rooms }) lying lies basis start bytes node
    it.0 it.1 it.2 refl refl refl
at-told old after rooms basis start bytes node (Err refusal) is lying lies =
    let it = is lying lies.spots lies.room in
    at-denied old (record old { placed = after; rooms = rooms }) lying lies basis start bytes node
    refusal it.0 (λ i. record old { placed = it.1 i; rooms = it.2 i })

pub at-still : (old : PageState) (after : Laid) (rooms : Option Rooms) (basis : Ground)
    (start bytes node : ℕ) (came : Result (Unit {0}) PlacedRefusal)
    → States old.placed old.rooms basis start bytes node came after rooms
    → OnErr came (record old { placed = after; rooms = rooms } ≡ old)
at-still old after rooms basis start bytes node (Ok so) is = tt
at-still old after rooms basis start bytes node (Err refusal) is =
    let same = states-still old.placed after old.rooms rooms basis start bytes node refusal is in
    λ i. record old { placed = same.0 i; rooms = same.1 i }
