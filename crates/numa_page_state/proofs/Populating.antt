-- Pages of a span that a task touches first.
use Rattle.std.proofs.Common.{◌≡◌, ℕ, ◌+◌, ◌-◌, ◌<◌, ◌≤◌, ◌^◌, Option, Some, None, List}
use Rattle.std.proofs.Common.{refl, sym, ap, subst, ◌∙◌, slice_index, is_some, arith, inl, inr}
use Rattle.std.proofs.Common.{true}
use Rattle.std.specs.Prelude.{if◌then◌else◌, Ok, Err}
use Rattle.std.proofs.lemmas.Bool.{cases_Bool}
use Rattle.numa_ranges.specs.Runs.{in_pages}
use Rattle.numa_space.specs.History.{page_count, page_of}
use Rattle.numa_placed.specs.Binds.{IsBound, bound_spots}
use Rattle.numa_placed.specs.Laid.{Laid}
use Rattle.numa_placed.specs.Refusals.{IsRefusal, populate_cause}
use Rattle.numa_placed.specs.Shifts.{ArePages, room_of, stated_on}
use Rattle.numa_placed.specs.Spots.{is_on, pages_within, spot_at}
use Rattle.numa_placed.specs.declared.bound.Bound.{Bound}
use Rattle.numa_requests.specs.declared.page_refusal.PlacedRefusal.{PlacedRefusal}
use Rattle.numa_placed.specs.declared.rooms.Rooms.{Rooms}
use Rattle.numa_placed.specs.declared.spot.Spot.{Spot}
use Rattle.numa_placed.proofs.Spanned.{more-alike}
use Rattle.numa_page_state.specs.Lying.{Ground, nothing}
use Rattle.numa_page_state.specs.Outcomes.{rooms_of}
use Rattle.numa_page_state.specs.Sending.{rooms_sent, sent_spots}
use Rattle.numa_page_state.specs.Standing.{HaveRoom, Touches}
use Rattle.numa_page_state.specs.Touching.{touched_by}
use Rattle.numa_page_state.proofs.Asking.{room-sent}
use Rattle.numa_page_state.proofs.Judged.{cause-none, cause-told}

module _ (old new : Laid) (rooms : Option Rooms) (basis : Ground)
    (start bytes task cpu : ℕ) where
  abbrev first : Option PlacedRefusal
  first = populate_cause basis.machine basis.mapped start bytes cpu

  abbrev Binds : (ℕ → ℕ) → Rooms → Bound → Type 0
  Binds room left told = IsBound (touched_by basis start bytes task cpu) (spot_at old) room
      (spot_at new) left told

  -- some pages are all those of the span that can lie anywhere
  pub record HasAll (from pages : ℕ) : Type 0 where
    pub within : from + pages ≤ 2 ^ 35
    pub low : (page : ℕ) → page < 2 ^ 35
        → in_pages (page_of start) (page_count bytes) page ≡ true → from ≤ page
    pub high : (page : ℕ) → page < 2 ^ 35
        → in_pages (page_of start) (page_count bytes) page ≡ true → page < from + pages

  -- as many more of them lie on a node as of all pages
  more-within : (left : Rooms) (told : Bound) (room : ℕ → ℕ) (from pages : ℕ)
      → Binds room left told → HasAll from pages → (node : ℕ)
      → pages_within (is_on node) (spot_at new) from pages
      - pages_within (is_on node) (spot_at old) from pages
      ≡ stated_on (spot_at new) node - stated_on (spot_at old) node
  more-within left told room from pages bound has node =
      more-alike from pages has.within (λ page. is_on node (spot_at new page))
      (λ page. is_on node (spot_at old page))
      (λ page lt. still page (λ t. omega (
        arith,
        lt,
        has.low page (omega (arith, lt, has.within))
            t,
      )))
      (λ page le near. still page (λ t. omega (arith, le, has.high page near t)))
    where
      still : (page : ℕ) → (in_pages (page_of start) (page_count bytes) page ≡ true → ⊥)
          → is_on node (spot_at new page) ≡ is_on node (spot_at old page)
      still page out = ap (is_on node) (bound.pages page
          ∙ (elim (cases_Bool (in_pages (page_of start) (page_count bytes) page)) [
            | inl t ↦ absurd (out t)
            | inr e ↦ rw e refl
          ]))

  -- they were
  pub touches : (left : Rooms) (rooms_then : Option Rooms) (told : Bound) (from pages : ℕ)
      (before after on : List ℕ)
      → first ≡ None
      → ((room : Option (ℕ → ℕ)) → HaveRoom rooms room → Binds (rooms_of room) left told)
      → rooms_then ≡ (if is_some rooms then Some left else None)
      → HasAll from pages → ArePages before (λ node. pages_within (is_on node) (spot_at old) from
      pages) → ArePages after (λ node. pages_within (is_on node) (spot_at new) from pages)
      → ((node : ℕ) → node < 256
      → slice_index on node ≡ slice_index after node - slice_index before node)
      → Touches old rooms basis start bytes task cpu (Ok (record {
        placed = told.moved;
        exhausted = told.left;
        on = on;
      })) new rooms_then
  touches left rooms_then told from pages before after on free bound these has was now more at
      alike have =
      let asked = touched_by basis start bytes task cpu in
      let all : spot_at old ≡ at.spots = λ i page. alike page i in
      let is : IsBound asked at.spots (rooms_of at.room) (spot_at new) left told =
      subst (λ (s : ℕ → Spot). IsBound asked s (rooms_of at.room) (spot_at new) left told) all
      (bound at.room have) in
      let later : spot_at new ≡ sent_spots asked at = λ i page. is.pages page i in (
        cause-none first (sent_spots asked at) free,
        is.pages,
        subst (λ (r : Option Rooms). HaveRoom r (rooms_sent asked at.spots at.room)) (sym these)
            (room-sent asked at.spots rooms left at.room have is.room),
        record {
          placed = is.moved;
          exhausted = is.left;
          on = λ node small. more node small
              ∙ (λ i. now node small i - was node small i)
              ∙ more-within left told (rooms_of at.room) from pages (bound at.room have) has node
              ∙ (λ i. stated_on (later i) node - stated_on (all i) node);
        },
      )

  -- they weren't
  pub touches-none : (refusal : PlacedRefusal)
      → ((room : Option (ℕ → ℕ)) → HaveRoom rooms room → IsRefusal first
      (bound_spots (touched_by basis start bytes task cpu) (spot_at old) (rooms_of room)) refusal)
      → new ≡ old
      → Touches old rooms basis start bytes task cpu (Err refusal) new rooms
  touches-none refusal err same at alike have =
      let asked = touched_by basis start bytes task cpu in
      let all : spot_at old ≡ at.spots = λ i page. alike page i in (
        cause-told first (sent_spots asked at) refusal (subst (λ (s : ℕ → Spot).
            IsRefusal first (bound_spots asked s (rooms_of at.room)) refusal) all
            (err at.room have)),
        same,
        refl,
      )

-- nothing has changed by one that was refused
pub touches-still : (old new : Laid) (rooms rooms_then : Option Rooms) (basis : Ground)
    (start bytes task cpu : ℕ) (refusal : PlacedRefusal)
    → Touches old rooms basis start bytes task cpu (Err refusal) new rooms_then
    → (new ≡ old) × (rooms_then ≡ rooms)
touches-still old new None rooms_then basis start bytes task cpu refusal is =
    let kept = is (record nothing { spots = spot_at old }) (λ page. refl) tt in
    (kept.1, kept.2)
touches-still old new (Some rooms) rooms_then basis start bytes task cpu refusal is =
    let kept = is (record nothing { spots = spot_at old; room = Some (room_of rooms) })
    (λ page. refl) (λ node small. refl) in
    (kept.1, kept.2)
