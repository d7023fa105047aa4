-- One page that goes to a node.
use Rattle.std.proofs.Common.{◌≡◌, ℕ, ◌<◌, ◌≤◌, Bool, true, Option, Some, None, refl}
use Rattle.std.proofs.Common.{sym, ap, subst, ◌∙◌, inl, inr, arith}
use Rattle.std.specs.Prelude.{Result, Ok, Err, IfErr, OnErr, OnOk}
use Rattle.std.proofs.lemmas.Bool.{cases_lt, le-leb}
use Rattle.numa_machine.specs.Machine.{Hardware}
use Rattle.numa_placed.specs.Laid.{Laid}
use Rattle.numa_placed.specs.Refusals.{IsMoveRefusal, lacks_node, move_cause}
use Rattle.numa_placed.specs.Shifts.{AreRooms, first_of, room_cause, room_moved, room_of}
use Rattle.numa_placed.specs.Spots.{spot_at}
use Rattle.numa_requests.specs.declared.page_refusal.MoveRefusal.{MoveRefusal}
use Rattle.numa_requests.specs.declared.page_refusal.MoveRefusal.TheVariants as move
use Rattle.numa_placed.specs.declared.rooms.Rooms.{Rooms}
use Rattle.numa_placed.specs.declared.spot.Spot.{Spot}
use Rattle.numa_page_state.specs.Lying.{Ground, nothing}
use Rattle.numa_page_state.specs.Outcomes.{move_spots, room_cause_in, room_moved_in}
use Rattle.numa_page_state.specs.Standing.{HaveRoom, MovesPage}
use Rattle.numa_page_state.proofs.Judged.{move-none, move-told}

-- the machine has the node that a page may go to
below : (machine : Hardware) (allowed node : ℕ) (mapped : Bool) (spot : Spot)
    → move_cause machine allowed node mapped spot ≡ None → machine.nodes ≤ 256 → node < 256
below machine allowed node mapped spot free few =
    elim (cases_lt node machine.nodes) [
      | inl l ↦ omega (arith, l, few)
      | inr l ↦
          let lacks : lacks_node machine node ≡ true = rw (le-leb machine.nodes node l) refl in
          let cause : move_cause machine allowed node mapped spot ≡ Some move.NoSuchNode =
          rw lacks refl in
          let odd : Some move.NoSuchNode ≡ None = sym cause ∙ free in
          absurd (cc)
    ]

first-none : (cause : Option MoveRefusal) → first_of cause None ≡ cause
first-none None = refl
first-none (Some cause) = refl

first-free : (one other : Option MoveRefusal) → first_of one other ≡ None → one ≡ None
first-free None other is = refl
first-free (Some cause) other is = is

pub room-none : (room : Option (ℕ → ℕ)) → HaveRoom None room → room ≡ None
room-none None have = refl
room-none (Some room) have = absurd have

abbrev pub HasThat : Rooms → Option (ℕ → ℕ) → Type 0
HasThat rooms room = (it : ℕ → ℕ) × (room ≡ Some it) × AreRooms rooms it

pub room-some : (rooms : Rooms) (room : Option (ℕ → ℕ)) → HaveRoom (Some rooms) room
    → HasThat rooms room
room-some rooms None have = absurd have
room-some rooms (Some room) have = (room, refl, have)

module _ (old new : Laid) (basis : Ground) (page node : ℕ)
    (few : basis.machine.nodes ≤ 256) where
  abbrev cause_at : (ℕ → Spot) → Option MoveRefusal
  cause_at spots = move_cause basis.machine basis.allowed node (basis.mapped page) (spots page)

  pub moves-freely : (result : Result (Unit {0}) MoveRefusal)
      → OnOk result (cause_at (spot_at old) ≡ None)
      → OnOk result ((other : ℕ) → spot_at new other ≡ move_spots page node (spot_at old) other)
      → IfErr result (IsMoveRefusal (cause_at (spot_at old)) (move_spots page node (spot_at old)))
      → OnErr result (new ≡ old) → MovesPage old None basis page node result new None
  moves-freely (Ok done) free ok err same at alike have =
      let all : spot_at old ≡ at.spots = λ i other. alike other i in
      let none = room-none at.room have in
      let after : spot_at new ≡ move_spots page node at.spots = λ i other.
      (ok other ∙ ap (λ (s : ℕ → Spot). move_spots page node s other) all) i in
      let cause = ap cause_at (sym all) ∙ free in
      let roomless = ap (λ (r : Option (ℕ → ℕ)). room_cause_in r node (at.spots page)) none in
      let first = ap (λ (c : Option MoveRefusal).
      first_of c (room_cause_in at.room node (at.spots page))) cause ∙ roomless in (
        move-none (first_of (cause_at at.spots) (room_cause_in at.room node (at.spots page)))
            (move_spots page node at.spots) first,
        λ other. ap (λ (s : ℕ → Spot). s other) after,
        subst (λ (r : Option (ℕ → ℕ)). HaveRoom None (room_moved_in r node (at.spots page)))
            (sym none) tt,
        below basis.machine basis.allowed node (basis.mapped page) (at.spots page) cause few,
      )
  moves-freely (Err refusal) free ok err same at alike have =
      let all : spot_at old ≡ at.spots = λ i other. alike other i in
      let none = room-none at.room have in
      let roomless = ap (λ (r : Option (ℕ → ℕ)). room_cause_in r node (at.spots page)) none in
      let first : first_of (cause_at at.spots) (room_cause_in at.room node (at.spots page))
      ≡ cause_at at.spots =
      ap (λ (c : Option MoveRefusal). first_of (cause_at at.spots) c) roomless
      ∙ first-none (cause_at at.spots) in
      let is : IsMoveRefusal (cause_at at.spots) (move_spots page node at.spots) refusal =
      subst (λ (s : ℕ → Spot). IsMoveRefusal (cause_at s) (move_spots page node s) refusal) all
      err in (
        move-told (first_of (cause_at at.spots) (room_cause_in at.room node (at.spots page)))
            (move_spots page node at.spots) refusal
            (subst (λ (c : Option MoveRefusal). IsMoveRefusal c (move_spots page node at.spots)
            refusal) (sym first) is),
        same,
        refl,
      )

  pub moves-filling : (rooms rooms_then : Rooms) (result : Result (Unit {0}) MoveRefusal)
      → ((room : ℕ → ℕ) → AreRooms rooms room → OnOk result
      (first_of (cause_at (spot_at old)) (room_cause room node (spot_at old page)) ≡ None))
      → OnOk result ((other : ℕ) → spot_at new other ≡ move_spots page node (spot_at old) other)
      → ((room : ℕ → ℕ) → AreRooms rooms room → OnOk result
      (AreRooms rooms_then (room_moved room node (spot_at old page))))
      → ((room : ℕ → ℕ) → AreRooms rooms room → IfErr result (IsMoveRefusal
      (first_of (cause_at (spot_at old)) (room_cause room node (spot_at old page)))
      (move_spots page node (spot_at old))))
      → OnErr result (new ≡ old) → OnErr result (rooms_then ≡ rooms)
      → MovesPage old (Some rooms) basis page node result new (Some rooms_then)
  moves-filling rooms rooms_then (Ok done) free ok taken err same kept at alike have =
      let all : spot_at old ≡ at.spots = λ i other. alike other i in
      let has = room-some rooms at.room have in
      let after : spot_at new ≡ move_spots page node at.spots = λ i other.
      (ok other ∙ ap (λ (s : ℕ → Spot). move_spots page node s other) all) i in
      let first : first_of (cause_at at.spots) (room_cause_in at.room node (at.spots page)) ≡ None =
      ap (λ (r : Option (ℕ → ℕ)). first_of (cause_at at.spots)
      (room_cause_in r node (at.spots page))) has.1
      ∙ ap (λ (s : ℕ → Spot). first_of (cause_at s) (room_cause has.0 node (s page))) (sym all)
      ∙ free has.0 has.2 in
      let moved : AreRooms rooms_then (room_moved has.0 node (at.spots page)) =
      subst (λ (s : ℕ → Spot). AreRooms rooms_then (room_moved has.0 node (s page))) all
      (taken has.0 has.2) in (
        move-none (first_of (cause_at at.spots) (room_cause_in at.room node (at.spots page)))
            (move_spots page node at.spots) first,
        λ other. ap (λ (s : ℕ → Spot). s other) after,
        subst (λ (r : Option (ℕ → ℕ)). HaveRoom (Some rooms_then)
            (room_moved_in r node (at.spots page))) (sym has.1) moved,
        below basis.machine basis.allowed node (basis.mapped page) (at.spots page)
            (first-free (cause_at at.spots) (room_cause_in at.room node (at.spots page)) first)
            few,
      )
  moves-filling rooms rooms_then (Err refusal) free ok taken err same kept at alike
      have =
      let all : spot_at old ≡ at.spots = λ i other. alike other i in
      let has = room-some rooms at.room have in
      let is : IsMoveRefusal (first_of (cause_at at.spots)
      (room_cause_in at.room node (at.spots page))) (move_spots page node at.spots) refusal =
      subst (λ (r : Option (ℕ → ℕ)). IsMoveRefusal (first_of (cause_at at.spots)
      (room_cause_in r node (at.spots page))) (move_spots page node at.spots) refusal) (sym has.1)
      (subst (λ (s : ℕ → Spot). IsMoveRefusal (first_of (cause_at s)
      (room_cause has.0 node (s page))) (move_spots page node s) refusal) all
      (err has.0 has.2)) in (
        move-told (first_of (cause_at at.spots) (room_cause_in at.room node (at.spots page)))
            (move_spots page node at.spots) refusal is,
        same,
        ap Some kept,
      )

-- nothing has changed by one that was refused
pub move-denied-still : (old new : Laid) (rooms rooms_then : Option Rooms)
    (basis : Ground) (page node : ℕ) (refusal : MoveRefusal)
    → MovesPage old rooms basis page node (Err refusal) new rooms_then
    → (new ≡ old) × (rooms_then ≡ rooms)
move-denied-still old new None rooms_then basis page node refusal is =
    let kept = is (record nothing { spots = spot_at old }) (λ other. refl) tt in
    (kept.1, kept.2)
move-denied-still old new (Some rooms) rooms_then basis page node refusal is =
    let kept = is (record nothing { spots = spot_at old; room = Some (room_of rooms) })
    (λ other. refl) (λ node small. refl) in
    (kept.1, kept.2)
