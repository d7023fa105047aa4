-- A span that is stated to lie on a node, with rooms or without.
use Rattle.std.proofs.Common.{◌≡◌, ℕ, Bool, true, false, Option, Some, None, refl}
use Rattle.std.proofs.Common.{sym, ap, subst, ◌∙◌}
use Rattle.std.specs.Prelude.{Result, Ok, Err, IfErr, OnErr, OnOk}
use Rattle.numa_placed.specs.Laid.{Laid}
use Rattle.numa_placed.specs.Refusals.{IsFull, IsRefusal, IsRefusalWithin, first_of, state_cause}
use Rattle.numa_placed.specs.Shifts.{AreRooms, is_short, room_of, rooms_between}
use Rattle.numa_placed.specs.Spots.{spot_at}
use Rattle.numa_requests.specs.declared.page_refusal.PlacedRefusal.{PlacedRefusal}
use Rattle.numa_requests.specs.declared.page_refusal.PlacedRefusal.TheVariants as cause
use Rattle.numa_placed.specs.declared.rooms.Rooms.{Rooms}
use Rattle.numa_placed.specs.declared.spot.Spot.{Spot}
use Rattle.numa_page_state.specs.Lying.{Ground, nothing, with_spots}
use Rattle.numa_page_state.specs.Outcomes.{Crowded, Enough, Lack, Starved, at_spots}
use Rattle.numa_page_state.specs.Outcomes.{is_short_in, lack_of, lack_told, short_or_lack}
use Rattle.numa_page_state.specs.Standing.{HaveRoom, States}
use Rattle.numa_page_state.proofs.Judged.{lack-told}
use Rattle.numa_page_state.proofs.Moving.{room-none, room-some}

-- ---- why it is refused

full-told : (after : ℕ → Spot) (refusal : PlacedRefusal) → IsFull refusal
    → short_or_lack (lack_told refusal) true after ≡ Some refusal
full-told after cause.Unaligned full = absurd full
full-told after cause.OutOfSpace full = absurd full
full-told after cause.NoSuchNode full = absurd full
full-told after cause.Occupied full = absurd full
full-told after cause.NodesNotAllowed full = absurd full
full-told after cause.Astray full = absurd full
full-told after cause.BadCpu full = absurd full
full-told after cause.Unmapped full = absurd full
full-told after cause.NoRoom full = refl
full-told after cause.TooManyRuns full = absurd full
full-told after cause.NoMemory full = refl

-- where room doesn't lack
pub lack-alone : (lack : Lack) (after : ℕ → Spot)
    → short_or_lack lack false after ≡ lack_of lack after
lack-alone Enough after = refl
lack-alone Crowded after = refl
lack-alone Starved after = refl

within-told : (first : Option PlacedRefusal) (short : Bool) (after : ℕ → Spot)
    (refusal : PlacedRefusal) → IsRefusalWithin first short after refusal
    → first_of first (short_or_lack (lack_told refusal) short after) ≡ Some refusal
within-told (Some first) short after refusal is = ap Some (sym is)
within-told None true after refusal is = full-told after refusal is
within-told None false after refusal is =
    lack-alone (lack_told refusal) after ∙ lack-told after refusal is

-- as where no room is said
without-room : (first : Option PlacedRefusal) (after : ℕ → Spot) (refusal : PlacedRefusal)
    → IsRefusal first after refusal → IsRefusalWithin first false after refusal
without-room None after refusal is = is
without-room (Some first) after refusal is = is

within-none : (first : Option PlacedRefusal) (short : Bool) (after : ℕ → Spot) → first ≡ None
    → short ≡ false → first_of first (short_or_lack Enough short after) ≡ None
within-none first short after none fits = rw (none, fits) refl

-- ---- what comes of it

module _ (old new : Laid) (basis : Ground) (start bytes node : ℕ) where
  abbrev first : Option PlacedRefusal
  first = state_cause basis.machine start bytes node

  abbrev after : (ℕ → Spot) → ℕ → Spot
  after spots = at_spots basis start bytes node spots

  pub states-freely : (result : Result (Unit {0}) PlacedRefusal) → OnOk result (first ≡ None)
      → OnOk result ((page : ℕ) → spot_at new page ≡ after (spot_at old) page)
      → IfErr result (IsRefusal first (after (spot_at old))) → OnErr result (new ≡ old)
      → States old None basis start bytes node result new None
  states-freely (Ok so) free ok err same at alike have =
      let all : spot_at old ≡ at.spots = λ i page. alike page i in
      let none = room-none at.room have in
      let later : spot_at new ≡ after at.spots = λ i page.
      (ok page ∙ ap (λ (s : ℕ → Spot). after s page) all) i in (
        within-none first (is_short_in at.room at.spots (after at.spots) node) (after at.spots) free
            (ap (λ (r : Option (ℕ → ℕ)). is_short_in r at.spots (after at.spots) node) none),
        λ page. ap (λ (s : ℕ → Spot). s page) later,
        subst (λ (r : Option (ℕ → ℕ)). HaveRoom None
            (with_spots (after at.spots) (record at { room = r })).room) (sym none) tt,
      )
  states-freely (Err refusal) free ok err same at alike have =
      let all : spot_at old ≡ at.spots = λ i page. alike page i in
      let none = room-none at.room have in
      let is : IsRefusalWithin first (is_short_in at.room at.spots (after at.spots) node)
      (after at.spots) refusal =
      subst (λ (r : Option (ℕ → ℕ)). IsRefusalWithin first
      (is_short_in r at.spots (after at.spots) node) (after at.spots) refusal) (sym none)
      (without-room first (after at.spots) refusal
      (subst (λ (s : ℕ → Spot). IsRefusal first (after s) refusal) all err)) in (
        within-told first (is_short_in at.room at.spots (after at.spots) node) (after at.spots)
            refusal is,
        same,
        refl,
      )

  pub states-filling : (rooms rooms_then : Rooms) (result : Result (Unit {0}) PlacedRefusal)
      → OnOk result (first ≡ None)
      → OnOk result ((page : ℕ) → spot_at new page ≡ after (spot_at old) page)
      → ((room : ℕ → ℕ) → AreRooms rooms room → OnOk result
      (is_short room (spot_at old) (spot_at new) node ≡ false))
      → ((room : ℕ → ℕ) → AreRooms rooms room → OnOk result
      (AreRooms rooms_then (rooms_between room (spot_at old) (spot_at new))))
      → ((room : ℕ → ℕ) → AreRooms rooms room → IfErr result (IsRefusalWithin first
      (is_short room (spot_at old) (after (spot_at old)) node) (after (spot_at old))))
      → OnErr result (new ≡ old) → OnErr result (rooms_then ≡ rooms)
      → States old (Some rooms) basis start bytes node result new (Some rooms_then)
  states-filling rooms rooms_then (Ok so) free ok fits taken err same kept at alike have =
      let all : spot_at old ≡ at.spots = λ i page. alike page i in
      let has = room-some rooms at.room have in
      let later : spot_at new ≡ after at.spots = λ i page.
      (ok page ∙ ap (λ (s : ℕ → Spot). after s page) all) i in
      let fit : is_short_in at.room at.spots (after at.spots) node ≡ false =
      ap (λ (r : Option (ℕ → ℕ)). is_short_in r at.spots (after at.spots) node) has.1
      ∙ (λ i. is_short has.0 (sym all i) (sym later i) node) ∙ fits has.0 has.2 in (
        within-none first (is_short_in at.room at.spots (after at.spots) node) (after at.spots) free
            fit,
        λ page. ap (λ (s : ℕ → Spot). s page) later,
        subst (λ (r : Option (ℕ → ℕ)). HaveRoom (Some rooms_then)
            (with_spots (after at.spots) (record at { room = r })).room) (sym has.1)
            (subst (λ (s : ℕ → Spot). AreRooms rooms_then
            (rooms_between has.0 s (after at.spots))) all
            (subst (λ (s : ℕ → Spot). AreRooms rooms_then
            (rooms_between has.0 (spot_at old) s)) later (taken has.0 has.2))),
      )
  states-filling rooms rooms_then (Err refusal) free ok fits taken err same kept at alike
      have =
      let all : spot_at old ≡ at.spots = λ i page. alike page i in
      let has = room-some rooms at.room have in
      let is : IsRefusalWithin first (is_short_in at.room at.spots (after at.spots) node)
      (after at.spots) refusal =
      subst (λ (r : Option (ℕ → ℕ)). IsRefusalWithin first
      (is_short_in r at.spots (after at.spots) node) (after at.spots) refusal) (sym has.1)
      (subst (λ (s : ℕ → Spot). IsRefusalWithin first (is_short has.0 s (after s) node) (after s)
      refusal) all (err has.0 has.2)) in (
        within-told first (is_short_in at.room at.spots (after at.spots) node) (after at.spots)
            refusal is,
        same,
        ap Some kept,
      )

-- nothing has changed by one that was refused
pub states-still : (old new : Laid) (rooms rooms_then : Option Rooms) (basis : Ground)
    (start bytes node : ℕ) (refusal : PlacedRefusal)
    → States old rooms basis start bytes node (Err refusal) new rooms_then
    → (new ≡ old) × (rooms_then ≡ rooms)
states-still old new None rooms_then basis start bytes node refusal is =
    let kept = is (record nothing { spots = spot_at old }) (λ page. refl) tt in
    (kept.1, kept.2)
states-still old new (Some rooms) rooms_then basis start bytes node refusal is =
    let kept = is (record nothing { spots = spot_at old; room = Some (room_of rooms) })
    (λ page. refl) (λ node small. refl) in
    (kept.1, kept.2)
