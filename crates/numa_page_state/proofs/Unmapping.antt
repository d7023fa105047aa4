-- What becomes of pages of which nothing is stated any more.
use Rattle.std.proofs.Common.{◌≡◌, ℕ, Bool, true, false, Option, Some, None, List, refl}
use Rattle.std.proofs.Common.{sym, ap, subst, ◌∙◌, inl, inr, is_some}
use Rattle.std.specs.Prelude.{if◌then◌else◌, Ok, Err, not, nat_lt, ◌%◌, ◌*◌, ◌+◌, ◌^◌, ◌==◌}
use Rattle.std.proofs.lemmas.Bool.{cases_Bool, both_ways}
use Rattle.numa_ranges.proofs.Pages.{any_page-false}
use Rattle.numa_space.specs.History.{page_of, page_count}
use Rattle.numa_placed.specs.Laid.{Laid}
use Rattle.numa_placed.specs.Refusals.{IsRefusal, first_of, span_cause}
use Rattle.numa_placed.specs.Shifts.{ArePages, AreRooms, rooms_between, stated_on}
use Rattle.numa_placed.specs.Spots.{spot_at}
use Rattle.numa_placed.specs.declared.rooms.Rooms.{Rooms}
use Rattle.numa_requests.specs.declared.page_refusal.PlacedRefusal.{PlacedRefusal}
use Rattle.numa_requests.specs.declared.page_refusal.PlacedRefusal.TheVariants as cause
use Rattle.numa_placed.specs.declared.spot.Spot.{Spot}
use Rattle.numa_placed.specs.declared.spot.Spot.TheVariants.{Nowhere}
use Rattle.numa_page_state.specs.Lying.{Lying, with_spots}
use Rattle.numa_page_state.specs.Outcomes.{forgotten, has_stated, is_astray_cause, lack_of}
use Rattle.numa_page_state.specs.Outcomes.{lack_told}
use Rattle.numa_page_state.specs.Standing.{Forgets, HaveRoom, LiesAs}
use Rattle.numa_page_state.specs.declared.state.PageState.{PageState}
use Rattle.numa_page_state.proofs.Judged.{lack-told}
use Rattle.numa_page_state.proofs.Moving.{room-none, room-some}

astray-first : (first : Option PlacedRefusal) (found : Bool) → is_astray_cause first ≡ false
    → is_astray_cause (first_of first (if found then Some cause.Astray else None)) ≡ true
    → first ≡ None
astray-first None found clear is = refl
astray-first (Some why) found clear is = absurd (both_ways (is_astray_cause (Some why)) clear is)

pub span-clear : (start bytes : ℕ) → is_astray_cause (span_cause start bytes) ≡ false
span-clear start bytes =
    elim (cases_Bool (not (start % 4096 == 0))) [
      | inl t ↦ rw t refl
      | inr e ↦ elim (cases_Bool (nat_lt (2 ^ 47) (start + page_count bytes * 4096))) [
        | inl u ↦ rw (e, u) refl
        | inr u ↦ rw (e, u) refl
      ]
    ]

-- of a span that isn't one nothing is stated
pub stated-span : (spots : ℕ → Spot) (start bytes : ℕ) → has_stated spots start bytes ≡ true
    → span_cause start bytes ≡ None
stated-span spots start bytes is =
    astray-first (span_cause start bytes) _ (span-clear start bytes) is

pub clear-first : (first : Option PlacedRefusal) → is_astray_cause first ≡ false
    → is_astray_cause (first_of first None) ≡ false
clear-first None clear = refl
clear-first (Some why) clear = clear

pub nothing-stated : (start bytes : ℕ) → has_stated (λ page. Nowhere) start bytes ≡ false
nothing-stated start bytes =
    rw (any_page-false (λ page. false) (page_of start) (page_count bytes)
    (λ page low high. refl)) (clear-first (span_cause start bytes) (span-clear start bytes))

pub forgets-none : (start bytes : ℕ) → Forgets None start bytes (Ok None)
forgets-none start bytes lying none =
    ap (λ (l : Lying). has_stated l.spots start bytes) none ∙ nothing-stated start bytes

module _ (kept : PageState) (start bytes : ℕ) where
  alike : (lying : Lying) → LiesAs kept lying → spot_at kept.placed ≡ lying.spots
  alike lying lies = λ i page. lies.spots page i

  pub forgets-still : has_stated (spot_at kept.placed) start bytes ≡ false
      → Forgets (Some kept) start bytes (Ok None)
  forgets-still is lying lies =
      ap (λ (s : ℕ → Spot). has_stated s start bytes) (sym (alike lying lies)) ∙ is

  pub forgets-some : (after : Laid)
      → has_stated (spot_at kept.placed) start bytes ≡ true
      → ((page : ℕ) → spot_at after page ≡ forgotten start bytes (spot_at kept.placed) page)
      → Forgets (Some kept) start bytes (Ok (Some after))
  forgets-some after is spots lying lies =
      let same = alike lying lies in (
        ap (λ (s : ℕ → Spot). has_stated s start bytes) (sym same) ∙ is,
        refl,
        λ page. spots page ∙ ap (λ (s : ℕ → Spot). forgotten start bytes s page) same,
      )

  pub forgets-lacks : (why : PlacedRefusal)
      → has_stated (spot_at kept.placed) start bytes ≡ true
      → lack_of (lack_told why) (forgotten start bytes (spot_at kept.placed)) ≡ Some why
      → Forgets (Some kept) start bytes (Err why)
  forgets-lacks why is lack lying lies =
      let same = alike lying lies in (
        ap (λ (s : ℕ → Spot). has_stated s start bytes) (sym same) ∙ is,
        ap (λ (s : ℕ → Spot). lack_of (lack_told why) (forgotten start bytes s)) (sym same)
            ∙ lack,
      )

-- the copy of the pages with nothing stated of the span
pub forgets-free : (old copy after : Laid) (start bytes : ℕ) → copy ≡ old
    → ((page : ℕ) → spot_at after page ≡ forgotten start bytes (spot_at copy) page)
    → (page : ℕ) → spot_at after page ≡ forgotten start bytes (spot_at old) page
forgets-free old copy after start bytes same spots page =
    spots page ∙ ap (λ (runs : Laid). forgotten start bytes (spot_at runs) page) same

refused-lack : (first : Option PlacedRefusal) (after : ℕ → Spot) (why : PlacedRefusal)
    → first ≡ None → IsRefusal first after why → lack_of (lack_told why) after ≡ Some why
refused-lack None after why none is = lack-told after why is
refused-lack (Some first) after why none is =
    let odd : true ≡ false = ap is_some none in absurd (both_ways true odd refl)

pub forgets-refused : (old copy : Laid) (why : PlacedRefusal) (start bytes : ℕ)
    → copy ≡ old → has_stated (spot_at old) start bytes ≡ true
    → IsRefusal (span_cause start bytes) (forgotten start bytes (spot_at copy)) why
    → lack_of (lack_told why) (forgotten start bytes (spot_at old)) ≡ Some why
forgets-refused old copy why start bytes same stated is =
    refused-lack (span_cause start bytes) (forgotten start bytes (spot_at old)) why
    (stated-span (spot_at old) start bytes stated)
    (subst (λ (runs : Laid). IsRefusal (span_cause start bytes)
    (forgotten start bytes (spot_at runs)) why) same is)

-- ---- the rooms keep pace

pub paced-none : (lying : Lying) (spots : ℕ → Spot) → HaveRoom None lying.room
    → HaveRoom None (with_spots spots lying).room
paced-none lying spots have =
    subst (λ (r : Option (ℕ → ℕ)). HaveRoom None
    (with_spots spots (record lying { room = r })).room) (sym (room-none lying.room have)) tt

pub paced-some : (before after : Laid) (rooms left : Rooms) (lay lie : List ℕ)
    (lying : Lying) (spots : ℕ → Spot) → ArePages lay (stated_on (spot_at before))
    → ArePages lie (stated_on (spot_at after))
    → ((room : ℕ → ℕ) (old new : ℕ → Spot) → AreRooms rooms room → ArePages lay (stated_on old)
    → ArePages lie (stated_on new) → AreRooms left (rooms_between room old new))
    → HaveRoom (Some rooms) lying.room → ((page : ℕ) → spot_at before page ≡ lying.spots page)
    → ((page : ℕ) → spot_at after page ≡ spots page)
    → HaveRoom (Some left) (with_spots spots lying).room
paced-some before after rooms left lay lie lying spots was now_lie between have old new =
    let has = room-some rooms lying.room have in
    let first : spot_at before ≡ lying.spots = λ i page. old page i in
    let last : spot_at after ≡ spots = λ i page. new page i in
    subst (λ (r : Option (ℕ → ℕ)). HaveRoom (Some left)
    (with_spots spots (record lying { room = r })).room) (sym has.1)
    (between has.0 lying.spots spots has.2
    (subst (λ (s : ℕ → Spot). ArePages lay (stated_on s)) first was)
    (subst (λ (s : ℕ → Spot). ArePages lie (stated_on s)) last now_lie))
