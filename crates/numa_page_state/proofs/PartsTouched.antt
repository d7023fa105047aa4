-- Pages of 4 KiB of a span that are touched beside parts of pages of 2 MiB.
use Rattle.std.proofs.Common.{◌≡◌, ℕ, Bool, true, false, Option, Some, None, refl, sym, ap, subst}
use Rattle.std.proofs.Common.{◌∙◌, inl, inr, ◌⊎◌}
use Rattle.std.specs.Prelude.{if◌then◌else◌, Result, Ok, Err}
use Rattle.std.proofs.lemmas.Bool.{both_ways, cases_Bool}
use Rattle.numa_space.specs.History.{page_count, page_of}
use Rattle.numa_placed.specs.Laid.{Laid}
use Rattle.numa_placed.specs.Spots.{spot_at}
use Rattle.numa_requests.specs.declared.page_refusal.PlacedRefusal.{PlacedRefusal}
use Rattle.numa_requests.specs.declared.page_refusal.PlacedRefusal.TheVariants as cause
use Rattle.numa_placed.specs.declared.rooms.Rooms.{Rooms}
use Rattle.numa_placed.specs.declared.spot.Spot.TheVariants.{Nowhere, Stated}
use Rattle.numa_huge.specs.Moves.{HugeMemory}
use Rattle.numa_huge.specs.declared.spot.HugeSpot.{HugeSpot}
use Rattle.numa_page_state.specs.Huge.{HasTouched, TouchesBeside, as_if_there, beside_parts}
use Rattle.numa_page_state.specs.Huge.{cause_beside, huge_count, huge_first, small_populated}
use Rattle.numa_page_state.specs.Huge.{touched_beside, with_parts}
use Rattle.numa_page_state.specs.Lying.{Ground, Lying}
use Rattle.numa_page_state.specs.Outcomes.{Enough, Lack, done_with, is_starved, lack_told}
use Rattle.numa_page_state.specs.Outcomes.{unless_refused}
use Rattle.numa_page_state.specs.Standing.{ArrivedAs, HaveRoom, LastAs, LiesAs, Touches}
use Rattle.numa_page_state.specs.Touching.{populate_outcome, touched_by, with_touched}
use Rattle.numa_page_state.specs.declared.arrived.Arrived.{Arrived}
use Rattle.numa_page_state.specs.declared.last.Last.{Last}
use Rattle.numa_page_state.specs.declared.state.PageState.{PageState}
use Rattle.numa_page_state.proofs.Answered.{Answers, denied, done}
use Rattle.numa_page_state.proofs.Served.{placed_lack, so_done}

module _ (old : Laid) (rooms rooms_then : Option Rooms) (basis : Ground)
    (huge : ℕ → Option HugeSpot) (start bytes task cpu : ℕ) where
  -- the parts were said to lie somewhere
  abbrev AreMarked : Laid → ℕ → ℕ → Type 0
  AreMarked marked first pages = (first ≡ huge_first (page_of start))
      × (pages ≡ huge_count (page_of start) (page_count bytes))
      × ((part : ℕ) → spot_at marked part
      ≡ with_parts (Stated 0) huge first pages (spot_at old) part)

  marked-so : (marked : Laid) (first pages : ℕ) → AreMarked marked first pages → (at : Lying)
      → ((page : ℕ) → spot_at old page ≡ at.spots page)
      → (page : ℕ) → spot_at marked page ≡ (as_if_there huge start bytes at).spots page
  marked-so marked first pages are at alike page =
      are.2 page
      ∙ (λ i. with_parts (Stated 0) huge (are.0 i) (are.1 i) (λ part. alike part i) page)

  pub touched-so : (marked touched new : Laid) (first pages : ℕ) (arrived : Arrived)
      → AreMarked marked first pages
      → Touches marked rooms basis start bytes task cpu (Ok arrived) touched rooms_then
      → ((part : ℕ) → spot_at new part
      ≡ with_parts Nowhere huge first pages (spot_at touched) part)
      → TouchesBeside old rooms basis huge start bytes task cpu (Ok arrived) new rooms_then
  touched-so marked touched new first pages arrived are is clear at alike have =
      let done = is (as_if_there huge start bytes at)
      (marked-so marked first pages are at alike) have in (
        done.0,
        record {
          spots = λ page. clear page
              ∙ (λ i. with_parts Nowhere huge (are.0 i) (are.1 i) (λ part. done.1 part i) page);
          room = done.2;
          arrived_is = done.3;
        },
      )

  pub touched-none : (marked touched : Laid) (first pages : ℕ) (why : PlacedRefusal)
      → AreMarked marked first pages
      → Touches marked rooms basis start bytes task cpu (Err why) touched rooms_then
      → TouchesBeside old rooms basis huge start bytes task cpu (Err why) touched rooms_then
  touched-none marked touched first pages why are is at alike have serves =
      (is (as_if_there huge start bytes at) (marked-so marked first pages are at alike) have).0

  pub touched-starved : (new : Laid)
      → TouchesBeside old rooms basis huge start bytes task cpu (Err cause.NoMemory) new rooms_then
  touched-starved new at alike have serves = absurd (both_ways true serves refl)

-- ---- what comes of it

starved-told : (why : PlacedRefusal) → is_starved (lack_told why) ≡ true → why ≡ cause.NoMemory
starved-told cause.NoMemory is = refl
starved-told cause.Unaligned is = absurd (both_ways false refl is)
starved-told cause.OutOfSpace is = absurd (both_ways false refl is)
starved-told cause.NoSuchNode is = absurd (both_ways false refl is)
starved-told cause.Occupied is = absurd (both_ways false refl is)
starved-told cause.NodesNotAllowed is = absurd (both_ways false refl is)
starved-told cause.Astray is = absurd (both_ways false refl is)
starved-told cause.BadCpu is = absurd (both_ways false refl is)
starved-told cause.Unmapped is = absurd (both_ways false refl is)
starved-told cause.NoRoom is = absurd (both_ways false refl is)
starved-told cause.TooManyRuns is = absurd (both_ways false refl is)

module _ (old new : PageState) (lying : Lying) (lies : LiesAs old lying) (basis : Ground)
    (memory : HugeMemory) (start bytes task cpu : ℕ) where
  abbrev outcome : Lack → Result (Unit {0}) PlacedRefusal × Lying
  outcome lack = small_populated lack basis start bytes task cpu memory lying

  abbrev after : Lying
  after = touched_beside basis memory.pages.spots start bytes task cpu lying

  abbrev caused : Lack → Option PlacedRefusal
  caused lack = cause_beside lack basis memory.pages.spots start bytes task cpu lying

  -- by what stands against it
  abbrev by_cause : Option PlacedRefusal → Result (Unit {0}) PlacedRefusal × Lying
  by_cause why = beside_parts memory.pages.spots start bytes
      (unless_refused why (as_if_there memory.pages.spots start bytes lying) (done_with
      (with_touched (touched_by basis start bytes task cpu)
      (as_if_there memory.pages.spots start bytes lying)))) lying

  pub beside-done : (arrived : Arrived) → caused Enough ≡ None
      → HasTouched new.placed new.rooms arrived after → new.arrived ≡ arrived
      → new.follows ≡ old.follows → new.last ≡ old.last
      → Answers old new so_done placed_lack outcome
  beside-done arrived free has came follows last =
      done old new so_done placed_lack outcome after (ap by_cause free) (record {
        spots = has.spots;
        room = has.room;
        follows = follows ∙ lies.follows;
        last = subst (λ (m : Last). LastAs m lying.last) (sym last) lies.last;
        arrived = subst (λ (a : Arrived). ArrivedAs a after.arrived) (sym came) has.arrived_is;
      })

  -- by whether memory lacked
  abbrev by_lack : PlacedRefusal → Bool → Result (Unit {0}) PlacedRefusal × Lying
  by_lack why starved =
      if starved then (Err cause.NoMemory, lying) else by_cause (caused (lack_told why))

  denied-so : (why : PlacedRefusal)
      → (is_starved (lack_told why) ≡ false → caused (lack_told why) ≡ Some why)
      → outcome (lack_told why) ≡ (Err why, lying)
  denied-so why told = elim (cases_Bool (is_starved (lack_told why))) [
    | inl t ↦
        ap (by_lack why) t
        ∙ ap {B = Result (Unit {0}) PlacedRefusal × Lying} (λ (w : PlacedRefusal). (Err w, lying))
        (sym (starved-told why t))
    | inr e ↦ ap (by_lack why) e ∙ ap by_cause (told e)
  ]

  pub beside-denied : (why : PlacedRefusal)
      → (is_starved (lack_told why) ≡ false → caused (lack_told why) ≡ Some why) → new ≡ old
      → Answers old new (Err why) placed_lack outcome
  beside-denied why told same =
      denied old new why lying outcome (denied-so why told) lies same

  pub beside-starved : new ≡ old → Answers old new placed_lack placed_lack outcome
  beside-starved same =
      beside-denied cause.NoMemory (λ serves. absurd (both_ways true serves refl)) same
