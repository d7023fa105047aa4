-- What a command makes of a core and its pages.
use Rattle.std.proofs.Common.{◌≡◌, ◌≢◌, ℕ, Bool, true, false, Option, Some, None, Ok, Err, refl}
use Rattle.std.proofs.Common.{sym, ap, ◌∙◌, subst, inl, inr, arith}
use Rattle.std.proofs.lemmas.Bool.{both_ways, cases_Bool}
use Rattle.std.proofs.lemmas.Result.{on_err_weaker}
use Rattle.std.specs.Prelude.{[], IfSome, OnErr, Result, if◌then◌else◌, is_some}
use Rattle.numa_core.specs.Standing.{setup_of}
use Rattle.numa_maps.specs.Residents.{Kept}
use Rattle.numa_placed.specs.Laid.{Laid}
use Rattle.numa_placed.specs.Refusals.{first_of}
use Rattle.numa_placed.specs.declared.spot.Spot.{Spot}
use Rattle.numa_requests.specs.declared.command.Command.TheVariants.{Unmap}
use Rattle.numa_requests.specs.declared.page_refusal.PlacedRefusal.{PlacedRefusal}
use Rattle.numa_requests.specs.declared.page_refusal.PlacedRefusal.TheVariants as cause
use Rattle.numa_ranges.proofs.Pages.{any_page-false}
use Rattle.numa_space.specs.History.{page_count, page_of}
use Rattle.numa_space.specs.Standing.{SpaceState}
use Rattle.numa_huge.specs.Huge.{HugeLying, HugePlaced, places_of, too_many, unmapping, with_span}
use Rattle.numa_page_state.specs.Huge.{huge_count, huge_first, unmap_lack}
use Rattle.numa_page_state.specs.Lying.{Ground, Lying, ground_in}
use Rattle.numa_page_state.specs.Outcomes.{Crowded, Done, Enough, Lack, Starved, forgotten}
use Rattle.numa_page_state.specs.Outcomes.{has_stated}
use Rattle.numa_page_state.specs.Outcomes.{is_starved, lack_of, lack_told}
use Rattle.numa_page_state.specs.Standing.{DoesAs, Forgets, LiesAs, Replaces}
use Rattle.numa_page_state.specs.declared.state.PageState.{PageState}
use Rattle.numa_pages.specs.Changes.{Accepts, Answers, Changes, PagesState}
use Rattle.numa_pages.specs.Changes.{ground_of, huge_in, huge_so, lying_after}
use Rattle.numa_pages.specs.Sizes.{LeavesHuge, alone, beside, has_huge_among, huge_after, huge_lack}
use Rattle.numa_pages.specs.declared.refusal.ChangeRefusal.TheVariants.{OfPages}
use Rattle.numa_pages.proofs.Needing.{stated-some}
use Rattle.numa_pages.proofs.Refusing.{lies-so, lying_in}

-- ---- pages that are unmapped

-- where those of 4 KiB lie then
lies-after : (before after : PageState) (start bytes : ℕ) (small : Option Laid)
    → Forgets (Some before) start bytes (Ok small) → (small ≡ None → after ≡ before)
    → IfSome small (λ laid. Replaces (Some before) laid (Some after)) → (lying : Lying)
    → LiesAs before lying → LiesAs after (lying_after (Unmap start bytes) lying)
lies-after before after start bytes None forgets same replaces lying lies =
    rw (forgets lying lies) (subst (λ (s : PageState). LiesAs s lying) (sym (same refl)) lies)
lies-after before after start bytes (Some laid) forgets same replaces lying lies =
    let is = forgets lying lies in
    rw is.0 (replaces lying (forgotten start bytes lying.spots) lies refl is.2)

-- how those of 2 MiB are then
huge-so : (before after : HugePlaced) (start bytes : ℕ) (huge : Option HugePlaced)
    → LeavesHuge (places_of before) start bytes (Ok huge) → (huge ≡ None → after ≡ before)
    → IfSome huge (λ it. after ≡ it)
    → places_of after ≡ huge_so (Unmap start bytes) (places_of before)
huge-so before after start bytes None leaves same is =
    ap places_of (same refl) ∙ sym (rw leaves refl)
huge-so before after start bytes (Some it) leaves same is = ap places_of is ∙ leaves.1

module _ (before after : PagesState) (start bytes : ℕ) (small : Option Laid)
    (huge : Option HugePlaced)
    (forgets : Forgets (Some before.state) start bytes (Ok small))
    (leaves : LeavesHuge (huge_in before) start bytes (Ok huge)) where
  -- nothing is known any more of the pages that were unmapped
  pub unmapped : (version : ℕ) → (small ≡ None → after.state ≡ before.state)
      → IfSome small (λ laid. Replaces (Some before.state) laid (Some after.state))
      → (huge ≡ None → after.huge ≡ before.huge) → IfSome huge (λ it. after.huge ≡ it)
      → Answers before.core (Unmap start bytes) (Ok version) after.core
      → setup_of after.core ≡ setup_of before.core
      → Accepts (Unmap start bytes) before (Ok version) after
  unmapped version same replaces same_huge is answers setup = record {
    core = answers;
    pages = λ lying lies.
        lies-after before.state after.state start bytes small forgets same replaces lying lies;
    huge = huge-so before.huge after.huge start bytes huge leaves same_huge is;
    setup = setup;
    err = tt;
    room = tt;
    unchanged = tt;
  }

-- no page of 0 bytes has 2 MiB
none-among : (huge : HugeLying) (start bytes : ℕ) → bytes ≡ 0
    → has_huge_among huge start bytes ≡ false
none-among huge start bytes none =
    let count : huge_count (page_of start) (page_count bytes) ≡ 0 =
    ap (λ (n : ℕ). huge_count (page_of start) (page_count n)) none in
    any_page-false (λ page. is_some (huge.spots page)) (huge_first (page_of start))
    (huge_count (page_of start) (page_count bytes))
    (λ page low high. absurd (omega (arith, low, high, count)))

lack-some : (huge : HugeLying) (start bytes : ℕ) (lack : Lack) (why : PlacedRefusal)
    → huge_lack lack start bytes huge ≡ Some why → bytes ≢ 0
lack-some huge start bytes lack why is none =
    let clear : huge_lack lack start bytes huge ≡ None =
    ap (λ (b : Bool). if b then unmap_lack lack start bytes (alone huge) else None)
    (none-among huge start bytes none) in
    let odd : Some why ≡ None = sym is ∙ clear in absurd (cc)

-- what is known of those of 2 MiB can't be taken away
pub huge-kept : (before : PagesState) (start bytes : ℕ) (why : PlacedRefusal)
    → LeavesHuge (huge_in before) start bytes (Err why)
    → Accepts (Unmap start bytes) before (Err (OfPages why)) before
huge-kept before start bytes why lacks = record {
  core = tt;
  pages = tt;
  huge = tt;
  setup = refl;
  err = λ lying lies. rw lacks refl;
  room = λ lack. lack-some (huge_in before) start bytes (lack_told why) why lacks;
  unchanged = refl;
}

-- that memory lacks is told so
told-starved : (lack : Lack) (after : ℕ → Spot) (why : PlacedRefusal) → lack ≡ Starved
    → lack_of lack after ≡ Some why → why ≡ cause.NoMemory
told-starved lack after why starved is =
    let said : Some cause.NoMemory ≡ Some why =
    ap (λ (l : Lack). lack_of l after) (sym starved) ∙ is in cc

-- their runs are few
few-behind : (huge : HugeLying) (start bytes : ℕ) (lack : Lack) (small : Option PlacedRefusal)
    (why : PlacedRefusal) → has_huge_among huge start bytes ≡ true → is_starved lack ≡ false
    → too_many (huge_after start bytes huge).spots ≡ false → small ≡ Some why
    → first_of (huge_lack lack start bytes huge) small ≡ Some why
few-behind huge start bytes lack small why some fed few is =
    let so : too_many (with_span (huge_first (page_of start))
    (huge_count (page_of start) (page_count bytes)) None huge.spots) ≡ false =
    sym (ap (λ (b : Bool). too_many (if b then unmapping (huge_first (page_of start))
    (huge_count (page_of start) (page_count bytes)) huge else huge).spots) some) ∙ few in
    rw (some, fed, so) is

-- pages of 2 MiB lack no runs, and memory only as those of 4 KiB do
lack-behind : (huge : HugeLying) (start bytes : ℕ) (found : Option HugePlaced) (lack : Lack)
    (small : Option PlacedRefusal) (why : PlacedRefusal)
    → LeavesHuge huge start bytes (Ok found)
    → (lack ≡ Starved → why ≡ cause.NoMemory) → small ≡ Some why
    → first_of (huge_lack lack start bytes huge) small ≡ Some why
lack-behind huge start bytes None lack small why leaves starved is = rw (leaves) is
lack-behind huge start bytes (Some after) Starved small why leaves starved is =
    rw (leaves.0) (ap (λ (w : PlacedRefusal). Some w) (sym (starved refl)))
lack-behind huge start bytes (Some after) Enough small why leaves starved is =
    let few : too_many (huge_after start bytes huge).spots ≡ false =
    ap (λ (h : HugeLying). too_many h.spots) (sym leaves.1) ∙ leaves.2 in
    few-behind huge start bytes Enough small why leaves.0 refl few is
lack-behind huge start bytes (Some after) Crowded small why leaves starved is =
    let few : too_many (huge_after start bytes huge).spots ≡ false =
    ap (λ (h : HugeLying). too_many h.spots) (sym leaves.1) ∙ leaves.2 in
    few-behind huge start bytes Crowded small why leaves.0 refl few is

-- what is stated of those of 4 KiB can't be taken away
pub not-unmapped : (before : PagesState) (start bytes : ℕ) (huge : Option HugePlaced)
    (why : PlacedRefusal) → LeavesHuge (huge_in before) start bytes (Ok huge)
    → Forgets (Some before.state) start bytes (Err why)
    → Accepts (Unmap start bytes) before (Err (OfPages why)) before
not-unmapped before start bytes huge why leaves forgets = record {
  core = tt;
  pages = tt;
  huge = tt;
  setup = refl;
  err = λ lying lies.
      let is = forgets lying lies in
      lack-behind (huge_in before) start bytes huge (lack_told why)
      (if has_stated lying.spots start bytes
      then lack_of (lack_told why) (forgotten start bytes lying.spots) else None) why leaves
      (λ starved. told-starved (lack_told why) (forgotten start bytes lying.spots) why starved is.1)
      (rw is.0 is.1);
  room = λ lack. stated-some (lying_in before.state).spots start bytes
      (forgets (lying_in before.state) (lies-so before.state)).0;
  unchanged = refl;
}

-- ---- pages of 4 KiB that are changed alone

-- they were changed by the space and the kept frames as they were read
pub changed-small : {A Cause : Type 0} (starved answer : Result A Cause)
    (outcome : Lack → Ground → Lying → Done A Cause) (before after : PagesState)
    (space : SpaceState) (kept : Kept) → space ≡ before.core.space → kept ≡ []
    → after.core ≡ before.core → after.huge ≡ before.huge
    → DoesAs before.state answer after.state starved
    (λ lack at. outcome lack (ground_in space kept) at)
    → OnErr answer (after.state ≡ before.state)
    → Changes starved (λ lack huge at. beside huge (outcome lack (ground_of before) at)) before
    answer after
changed-small {A} {Cause} starved answer outcome before after space kept same none core huge does
    still = record {
      does = λ lying lies.
          let d = (subst (λ (s : SpaceState). DoesAs before.state answer after.state starved
          (λ lack at. outcome lack (ground_in s []) at)) same
          (subst (λ (k : Kept). DoesAs before.state answer after.state starved
          (λ lack at. outcome lack (ground_in space k) at)) none does)) lying lies in
          (d.0, d.1, ap places_of huge, d.2, λ lack. ((d.3 lack).0, huge, (d.3 lack).1));
      core = core;
      unchanged = on_err_weaker answer (λ state. λ i. record {
        core = core i;
        state = state i;
        huge = huge i;
      }) still;
    }
