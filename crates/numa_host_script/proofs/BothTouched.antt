-- What first touches of pages of both sizes of a process of a host come to.
use Rattle.std.proofs.Common.{◌≡◌, ◌≢◌, ℕ, Bool, true, false, Option, Some, None, Result, Ok, Err}
use Rattle.std.proofs.Common.{refl, sym, ap, subst, ◌∙◌, inl, inr}
use Rattle.std.proofs.lemmas.Bool.{cases_Bool}
use Rattle.std.specs.Option.{option_map}
use Rattle.std.specs.Prelude.{◌&&◌, IsSomeAnd, if◌then◌else◌, is_some, not}
use Rattle.numa_huge.specs.Huge.{HugePlaced, HugeLying, has_huge, places_of}
use Rattle.numa_huge.specs.Moves.{HugeArrival, HugeMemory, HugeTouch}
use Rattle.numa_huge.specs.Tallies.{HasArrived, IsTouch}
use Rattle.numa_huge.specs.declared.arrived.HugeArrived.{HugeArrived}
use Rattle.numa_huge.specs.declared.pages.HugePages.{HugePages}
use Rattle.numa_host_huge.specs.Kept.{HugeKept, lying_of, spots_in}
use Rattle.numa_host_huge.specs.Sharing.{HugeHome, Sharing, given_back as huge_back, given_if}
use Rattle.numa_host_huge.specs.Sharing.{home_of, lent as lent_pages, memory_in}
use Rattle.numa_host_huge.specs.Standing.{Changes as HugeChanges, HugeLies, IsSame, LiesApart}
use Rattle.numa_host_pages.specs.Homes.{HostLying, given_back, lent, lent_or_new, pages_in}
use Rattle.numa_host_pages.specs.Homes.{pages_lent, with_huge, with_pages}
use Rattle.numa_host_pages.specs.Standing.{HostLies}
use Rattle.numa_host_pages.specs.declared.pages.HostPages.{HostPages}
use Rattle.numa_page_state.specs.Huge.{both_populated, huge_count, huge_first}
use Rattle.numa_page_state.specs.Huge.{huge_populated, populated_with, small_populated, touch_walk}
use Rattle.numa_page_state.specs.Lying.{Ground, Lying, nothing}
use Rattle.numa_page_state.specs.Outcomes.{Lack, Starved, is_starved}
use Rattle.numa_page_state.specs.Standing.{DoesAs, LiesAs}
use Rattle.numa_page_state.specs.declared.state.PageState.{PageState}
use Rattle.numa_requests.specs.declared.page_refusal.PlacedRefusal.{PlacedRefusal}
use Rattle.numa_requests.specs.declared.page_refusal.PlacedRefusal.TheVariants.{NoMemory}
use Rattle.numa_space.specs.History.{page_count, page_of}
use Rattle.numa_host_script.specs.Paging.{populated_both, populated_by}
use Rattle.numa_host_script.specs.Standing.{PopulatesBoth, PopulatesIn}
use Rattle.numa_host_script.proofs.Acted.{begins}
use Rattle.numa_host_script.proofs.Sharers.{IsThere, given-same, has-there, huge-lies}
use Rattle.numa_host_script.proofs.Sharers.{kept-lying, none-some}

ok-err : (result : Result (Unit {0}) PlacedRefusal) (why : PlacedRefusal) → result ≡ Ok tt
    → result ≡ Err why → ⊥
ok-err result why is so = cc

pub some-of : {A : Type 0} (o : Option A) (P : A → Type 0) → IsSomeAnd o P
    → (a : A) × (o ≡ Some a) × P a
some-of (Some a) P holds = (a, refl, holds)
some-of None P holds = absurd holds

-- ---- while pages of 4 KiB are lent

module _ (huge mid : HugeKept) (state : PageState) (process : ℕ) (basis : Ground)
    (start bytes task cpu : ℕ)
    (has : has_huge (spots_in process huge.sharers) (huge_first (page_of start))
    (huge_count (page_of start) (page_count bytes)) ≡ true) (same : IsSame huge mid) where
  abbrev pub TouchesBoth : Result (Unit {0}) PlacedRefusal → HugeKept → PageState → Type 0
  TouchesBoth result huge_then state_then =
      PopulatesBoth huge state result huge_then state_then process basis start bytes task cpu

  abbrev outcome : Lack → HugeMemory → Lying → Result (Unit {0}) PlacedRefusal
      × (Lying × HugeMemory)
  outcome lack memory at =
      both_populated lack basis start bytes task cpu memory (record at { begun = true })

  abbrev TouchedTo : Sharing → Lying → Result (Unit {0}) PlacedRefusal → HugeKept → PageState
      → HugeMemory → Type 0
  TouchedTo at lying result huge_then state_then memory = (lacked : Lack)
      × ((outcome lacked memory lying).0 ≡ result)
      × LiesAs state_then (outcome lacked memory lying).1.0
      × HugeLies huge_then (huge_back process (outcome lacked memory lying).1.1 at)

  some-touched : (at : Sharing) (lying : Lying) (result : Result (Unit {0}) PlacedRefusal)
      (huge_then : HugeKept) (state_then : PageState) (memory : HugeMemory)
      → memory_in process at ≡ Some memory
      → TouchedTo at lying result huge_then state_then memory
      → IsSomeAnd (memory_in process at) (TouchedTo at lying result huge_then state_then)
  some-touched at lying result huge_then state_then memory is to =
      subst (λ (o : Option HugeMemory).
      IsSomeAnd o (TouchedTo at lying result huge_then state_then)) (sym is) to

  there-at : (at : Sharing) → HugeLies huge at → IsThere process at
  there-at at shares = has-there huge at process shares (huge_first (page_of start))
      (huge_count (page_of start) (page_count bytes)) has

  unchanged : (at : Sharing) (memory : HugeMemory) → HugeLies huge at
      → memory_in process at ≡ Some memory → HugeLies mid (huge_back process memory at)
  unchanged at memory shares is =
      subst (HugeLies mid) (sym (given-same process memory at is)) (same at shares)

  -- there is no memory for those of 2 MiB
  pub touched-starved : TouchesBoth (Err NoMemory) mid state
  touched-starved = λ at lying shares lies.
      let there = there-at at shares in
      some-touched at lying (Err NoMemory) mid state there.0 there.1
      (Starved, refl, begins state lying lies, unchanged at there.0 shares there.1)

  -- the process has some
  pub touched-none : (result : Result (Unit {0}) PlacedRefusal) (huge_then : HugeKept)
      (state_then : PageState)
      → ((at : Sharing) → HugeLies mid at → home_of process at.homes ≡ None)
      → TouchesBoth result huge_then state_then
  touched-none result huge_then state_then none = λ at lying shares lies.
      let there = there-at at shares in
      absurd (none-some there.0 (sym (ap (option_map (lent_pages at.pools))
      (none at (same at shares))) ∙ there.1))

  module _ (kept : HugePages)
      (finds : (at : Sharing) → HugeLies mid at → (home : HugeHome)
      × (home_of process at.homes ≡ Some home) × LiesApart kept home) where
    abbrev pub Beside : Result (Unit {0}) PlacedRefusal → PageState → Type 0
    Beside result after = (memory : HugeMemory) → places_of kept.places ≡ memory.pages
        → DoesAs state result after (Err NoMemory) (λ lack at.
        small_populated lack basis start bytes task cpu memory at)

    abbrev small_of : Lack → HugeMemory → Lying → Result (Unit {0}) PlacedRefusal × Lying
    small_of lack memory at =
        small_populated lack basis start bytes task cpu memory (record at { begun = true })

    abbrev DoneBeside : Result (Unit {0}) PlacedRefusal → PageState → Lying → HugeMemory → Type 0
    DoneBeside result after lying memory = (lack : Lack)
        × LiesAs after (small_of lack memory lying).1 × ((small_of lack memory lying).0 ≡ result)
        × (is_starved lack ≡ true → (after ≡ state) × (result ≡ Err NoMemory))

    beside-here : (result : Result (Unit {0}) PlacedRefusal) (after : PageState)
        → Beside result after → (at : Sharing) → HugeLies huge at → (lying : Lying)
        → LiesAs state lying → (memory : HugeMemory) × (memory_in process at ≡ Some memory)
        × DoneBeside result after lying memory
    beside-here result after beside at shares lying lies =
        let f = finds at (same at shares) in (
          lent_pages at.pools f.0,
          ap (option_map (lent_pages at.pools)) f.1,
          beside (lent_pages f.2.0 f.0) f.2.1.pages (record lying { begun = true })
              (begins state lying lies),
        )

    abbrev by_starved : Bool → HugeMemory → Lying
        → Result (Unit {0}) PlacedRefusal × Lying
        → Result (Unit {0}) PlacedRefusal × (Lying × HugeMemory)
    by_starved starved memory lying small =
        if starved then (Err NoMemory, (record lying { begun = true }, memory))
        else populated_with basis start bytes task cpu memory small

    to-touched : (at : Sharing) (lying : Lying) (result : Result (Unit {0}) PlacedRefusal)
        (huge_then : HugeKept) (after : PageState) (memory : HugeMemory) (lack : Lack)
        (then_lying : Lying) (then_memory : HugeMemory)
        → outcome lack memory lying ≡ (result, (then_lying, then_memory))
        → LiesAs after then_lying → HugeLies huge_then (huge_back process then_memory at)
        → TouchedTo at lying result huge_then after memory
    to-touched at lying result huge_then after memory lack then_lying then_memory is lies shares = (
      lack,
      ap (λ (p : Result (Unit {0}) PlacedRefusal × (Lying × HugeMemory)). p.0) is,
      subst (λ (p : Result (Unit {0}) PlacedRefusal × (Lying × HugeMemory)).
          LiesAs after p.1.0) (sym is) lies,
      subst (λ (p : Result (Unit {0}) PlacedRefusal × (Lying × HugeMemory)).
          HugeLies huge_then (huge_back process p.1.1 at)) (sym is) shares,
    )

    -- those of 4 KiB are refused
    pub touched-refused : (why : PlacedRefusal) (after : PageState) → Beside (Err why) after
        → TouchesBoth (Err why) mid after
    touched-refused why after beside = λ at lying shares lies.
        let b = beside-here (Err why) after beside at shares lying lies in
        let d = b.2 in
        let small = small_of d.0 b.0 lying in
        some-touched at lying (Err why) mid after b.0 b.1 (elim (cases_Bool (is_starved d.0)) [
          | inl t ↦
              let lacks = d.3 t in
              to-touched at lying (Err why) mid after b.0 d.0 (record lying { begun = true }) b.0
              (ap (λ (s : Bool). by_starved s b.0 lying small) t
              ∙ ap (λ (r : Result (Unit {0}) PlacedRefusal).
              (r, (record lying { begun = true }, b.0))) (sym lacks.1))
              (subst (λ (p : PageState). LiesAs p (record lying { begun = true })) (sym lacks.0)
              (begins state lying lies)) (unchanged at b.0 shares b.1)
          | inr e ↦ to-touched at lying (Err why) mid after b.0 d.0 small.1 b.0
              (ap (λ (s : Bool). by_starved s b.0 lying small) e
              ∙ ap (λ (r : Result (Unit {0}) PlacedRefusal).
              populated_with basis start bytes task cpu b.0 (r, small.1)) d.2) d.1
              (unchanged at b.0 shares b.1)
        ])

    -- both were touched
    pub touched-done : (places : HugePlaced) (arrived : HugeArrived) (huge_then : HugeKept)
        (after : PageState) → Beside (Ok tt) after
        → ((memory : HugeMemory) → lying_of process huge ≡ memory.pages
        → IsTouch (touch_walk basis start bytes task cpu memory) places arrived)
        → ((told : HugeArrival) → HasArrived arrived told → HugeChanges process mid huge_then
        (λ memory. record memory { pages = places_of places; arrived = Some told }))
        → TouchesBoth (Ok tt) huge_then after
    touched-done places arrived huge_then after beside touches settles = λ at lying shares lies.
        let b = beside-here (Ok tt) after beside at shares lying lies in
        let d = b.2 in
        let small = small_of d.0 b.0 lying in
        let walk : HugeTouch = touch_walk basis start bytes task cpu b.0 in
        let touch = touches b.0 (kept-lying huge at process shares b.0 b.1) in
        let kept_so : HugeLies huge_then (huge_back process (record b.0 {
          pages = places_of places;
          arrived = Some walk.arrived;
        }) at) = subst (λ (o : Option HugeMemory). HugeLies huge_then (given_if process
        (option_map (λ (m : HugeMemory). record m {
          pages = places_of places;
          arrived = Some walk.arrived;
        }) o) at)) b.1 (settles walk.arrived touch.arrived_is at (same at shares)) in
        let shared : HugeLies huge_then (huge_back process
        (huge_populated basis start bytes task cpu b.0) at) =
        subst (λ (p : HugeLying). HugeLies huge_then (huge_back process (record b.0 {
          pages = p;
          arrived = Some walk.arrived;
        }) at)) touch.pages kept_so in
        some-touched at lying (Ok tt) huge_then after b.0 b.1 (elim (cases_Bool (is_starved d.0)) [
          | inl t ↦ absurd (ok-err (Ok tt) NoMemory refl (d.3 t).1)
          | inr e ↦ to-touched at lying (Ok tt) huge_then after b.0 d.0 small.1
              (huge_populated basis start bytes task cpu b.0)
              (ap (λ (s : Bool). by_starved s b.0 lying small) e
              ∙ ap (λ (r : Result (Unit {0}) PlacedRefusal).
              populated_with basis start bytes task cpu b.0 (r, small.1)) d.2) d.1 shared
        ])

-- ---- pages of 4 KiB are given back

-- what is refused changes no page of 2 MiB
refused-memory : (lack : Lack) (basis : Ground) (start bytes task cpu : ℕ) (memory : HugeMemory)
    (at : Lying) (why : PlacedRefusal)
    → (both_populated lack basis start bytes task cpu memory at).0 ≡ Err why
    → (both_populated lack basis start bytes task cpu memory at).1.1 ≡ memory
refused-memory lack basis start bytes task cpu memory at why =
    by (is_starved lack) (small_populated lack basis start bytes task cpu memory at)
  where
    by : (starved : Bool) (told : Result (Unit {0}) PlacedRefusal × Lying)
        → (if starved then (Err NoMemory, (at, memory))
        else populated_with basis start bytes task cpu memory told).0 ≡ Err why
        → (if starved then (Err NoMemory, (at, memory))
        else populated_with basis start bytes task cpu memory told).1.1 ≡ memory
    by true told ends = refl
    by false (Err reason, after) ends = refl
    by false (Ok did, after) ends = absurd (cc)

-- where memory lacks, that is told
starved-told : (lack : Lack) (basis : Ground) (start bytes task cpu : ℕ) (memory : HugeMemory)
    (at : Lying) (result : Result (Unit {0}) PlacedRefusal) → is_starved lack ≡ true
    → (both_populated lack basis start bytes task cpu memory at).0 ≡ result
    → result ≡ Err NoMemory
starved-told lack basis start bytes task cpu memory at result starved is = sym is
    ∙ ap (λ (b : Bool). (if b then (Err NoMemory, (at, memory))
    else populated_with basis start bytes task cpu memory
    (small_populated lack basis start bytes task cpu memory at)).0) starved

module _ (pages : HostPages) (state after : PageState) (huge_then : HugeKept)
    (process : ℕ) (basis : Ground) (start bytes task cpu : ℕ)
    (result : Result (Unit {0}) PlacedRefusal)
    (touches : PopulatesBoth pages.huge state result huge_then after process basis start bytes task
    cpu) where
  abbrev pub PopulatesAt : HostLying → HostPages → Type 0
  PopulatesAt at new = PopulatesIn at process basis start bytes task cpu result new

  abbrev ToPopulated : HostLying → HostPages → HugeMemory → Type 0
  ToPopulated at new memory = (lacked : Lack)
      × ((populated_both lacked basis process start bytes task cpu memory at).0 ≡ result)
      × HostLies new (populated_both lacked basis process start bytes task cpu memory at).1

  some-populated : (at : HostLying) (new : HostPages) (memory : HugeMemory)
      → memory_in process at.huge ≡ Some memory → ToPopulated at new memory → PopulatesAt at new
  some-populated at new memory is to =
      subst (λ (o : Option HugeMemory). IsSomeAnd o (ToPopulated at new)) (sym is) to

  abbrev done_by : Lack → HugeMemory → Lying → Result (Unit {0}) PlacedRefusal
      × (Lying × HugeMemory)
  done_by lacked memory lying =
      both_populated lacked basis start bytes task cpu memory (record lying { begun = true })

  abbrev ToTouched : Sharing → Lying → HugeMemory → Type 0
  ToTouched at lying memory = (lacked : Lack) × ((done_by lacked memory lying).0 ≡ result)
      × LiesAs after (done_by lacked memory lying).1.0
      × HugeLies huge_then (huge_back process (done_by lacked memory lying).1.1 at)

  abbrev with_had : Bool → Lack → HugeMemory → HostLying → Option Lying
      → Result (Unit {0}) PlacedRefusal × HostLying
  with_had starved lacked memory at had = if starved then (Err NoMemory, at)
      else populated_by (done_by lacked memory (lent_or_new at.room at.follows had)) process at

  module _ (pages_then : HostPages)
      (gives : (at : HostLying) (done : Lying) → HostLies (record pages { huge = huge_then })
      (record at { homes = with_pages process None at.homes }) → LiesAs after done
      → HostLies pages_then (given_back process done at)) where
    back-lies : (at : HostLying) (memory : HugeMemory) (lacked : Lack) (lying : Lying)
        → memory_in process at.huge ≡ Some memory
        → HostLies pages (record at { homes = with_pages process None at.homes })
        → (done_by lacked memory lying).0 ≡ result
        → LiesAs after (done_by lacked memory lying).1.0
        → HugeLies huge_then (huge_back process (done_by lacked memory lying).1.1 at.huge)
        → ((populated_by (done_by lacked memory lying) process at).0 ≡ result)
        × HostLies pages_then (populated_by (done_by lacked memory lying) process at).1
    back-lies at memory lacked lying is out told lies shares = by result told
      where
        by : (r : Result (Unit {0}) PlacedRefusal) → (done_by lacked memory lying).0 ≡ r
            → ((populated_by (done_by lacked memory lying) process at).0 ≡ r)
            × HostLies pages_then (populated_by (done_by lacked memory lying) process at).1
        by (Err why) ends =
            let done = done_by lacked memory lying in
            let kept : done.1.1 ≡ memory = refused-memory lacked basis start bytes task cpu memory
            (record lying { begun = true }) why ends in
            let still : HugeLies huge_then at.huge = subst (HugeLies huge_then)
            (ap (λ (m : HugeMemory). huge_back process m at.huge) kept
            ∙ given-same process memory at.huge is) shares in
            let so : populated_by done process at ≡ (Err why, given_back process done.1.0 at) =
            ap (λ (r : Result (Unit {0}) PlacedRefusal). populated_by (r, done.1) process at)
            ends in (
              ap (λ (p : Result (Unit {0}) PlacedRefusal × HostLying). p.0) so,
              subst (λ (p : Result (Unit {0}) PlacedRefusal × HostLying). HostLies pages_then p.1)
                  (sym so) (gives at done.1.0 (huge-lies pages huge_then
                  (record at { homes = with_pages process None at.homes }) at.huge out still) lies),
            )
        by (Ok did) ends =
            let done = done_by lacked memory lying in
            let so : populated_by done process at
            ≡ (Ok did, with_huge process done.1.1 (given_back process done.1.0 at)) =
            ap (λ (r : Result (Unit {0}) PlacedRefusal). populated_by (r, done.1) process at)
            ends in
            let mid : HostLying = record at { huge = huge_back process done.1.1 at.huge } in (
              ap (λ (p : Result (Unit {0}) PlacedRefusal × HostLying). p.0) so,
              subst (λ (p : Result (Unit {0}) PlacedRefusal × HostLying). HostLies pages_then p.1)
                  (sym so) (gives mid done.1.0 (huge-lies pages huge_then
                  (record at { homes = with_pages process None at.homes })
                  (huge_back process done.1.1 at.huge) out shares) lies),
            )

    populated-by : (at : HostLying) (had : Option Lying) → pages_in process at.homes ≡ had
        → HostLies pages (record at { homes = with_pages process None at.homes })
        → LiesAs state (lent_or_new at.room at.follows had)
        → ((lacked : Lack) (memory : HugeMemory)
        → (done_by lacked memory (lent_or_new at.room at.follows had)).0 ≡ result
        → (not (is_some had) && is_starved lacked) ≡ false)
        → PopulatesAt at pages_then
    populated-by at had is out lies goes =
        let from : Lying = lent_or_new at.room at.follows had in
        let t = some-of (memory_in process at.huge) (ToTouched at.huge from)
        (touches at.huge from out.huge lies) in
        let d = t.2 in
        let back = back-lies at t.0 d.0 from t.1 out d.1 d.2 d.3 in
        let so : populated_both d.0 basis process start bytes task cpu t.0 at
        ≡ populated_by (done_by d.0 t.0 from) process at =
        ap (λ (o : Option Lying).
        with_had (not (is_some o) && is_starved d.0) d.0 t.0 at o) is
        ∙ ap (λ (b : Bool). with_had b d.0 t.0 at had) (goes d.0 t.0 d.1) in
        some-populated at pages_then t.0 t.1 (
          d.0,
          ap (λ (p : Result (Unit {0}) PlacedRefusal × HostLying). p.0) so ∙ back.0,
          subst (λ (p : Result (Unit {0}) PlacedRefusal × HostLying). HostLies pages_then p.1)
              (sym so) back.1,
        )

    -- pages that the process had
    pub lent-populated : (at : HostLying) (lying : Lying) → pages_in process at.homes ≡ Some lying
        → HostLies pages (record at { homes = with_pages process None at.homes })
        → LiesAs state (lent at.room at.follows lying) → PopulatesAt at pages_then
    lent-populated at lying is out lies =
        populated-by at (Some lying) is out lies (λ lacked memory told. refl)

    -- its first ones, where memory doesn't lack
    pub first-populated : (at : HostLying) → pages_in process at.homes ≡ None
        → HostLies pages (record at { homes = with_pages process None at.homes })
        → LiesAs state (lent at.room at.follows nothing) → result ≢ Err NoMemory
        → PopulatesAt at pages_then
    first-populated at none out lies serves =
        populated-by at None none out lies (λ lacked memory told.
        elim (cases_Bool (is_starved lacked)) [
          | inl t ↦ absurd (serves (starved-told lacked basis start bytes task cpu memory
              (record (lent at.room at.follows nothing) { begun = true }) result t told))
          | inr e ↦ e
        ])

  -- memory lacked for its first ones
  pub first-lacks : (at : HostLying) → pages_in process at.homes ≡ None → HostLies pages at
      → LiesAs state (lent at.room at.follows nothing) → result ≡ Err NoMemory
      → PopulatesAt at (record pages { huge = huge_then })
  first-lacks at none lies has lacks =
      let from : Lying = lent at.room at.follows nothing in
      let t = some-of (memory_in process at.huge) (ToTouched at.huge from)
      (touches at.huge from lies.huge has) in
      let d = t.2 in
      let kept : (done_by d.0 t.0 from).1.1 ≡ t.0 =
      refused-memory d.0 basis start bytes task cpu t.0 (record from { begun = true }) NoMemory
      (d.1 ∙ lacks) in
      let still : HugeLies huge_then at.huge = subst (HugeLies huge_then)
      (ap (λ (m : HugeMemory). huge_back process m at.huge) kept
      ∙ given-same process t.0 at.huge t.1) d.3 in
      let so : populated_both Starved basis process start bytes task cpu t.0 at
      ≡ (Err NoMemory, at) =
      ap (λ (o : Option Lying). with_had (not (is_some o) && true) Starved t.0 at o) none in
      some-populated at (record pages { huge = huge_then }) t.0 t.1 (
        Starved,
        ap (λ (p : Result (Unit {0}) PlacedRefusal × HostLying). p.0) so ∙ sym lacks,
        subst (λ (p : Result (Unit {0}) PlacedRefusal × HostLying).
            HostLies (record pages { huge = huge_then }) p.1) (sym so)
            (huge-lies pages huge_then at at.huge lies still),
      )
