-- Where the parts of pages of 2 MiB lie, and what a process of a host leaves.
use Rattle.std.proofs.Common.{◌≡◌, ℕ, suc, ◌+◌, ◌-◌, ◌*◌, ◌/◌, ◌<◌, ◌≤◌, Bool, true, false}
use Rattle.std.proofs.Common.{Option, Some, None, List, [], ◌∷◌, ◌++◌, arith, refl, sym, ap, subst}
use Rattle.std.proofs.Common.{Bor, ◌∙◌, inl, inr, length}
use Rattle.std.proofs.lemmas.Bool.{both_ways, cases_lt, le-ltb, lt-ltb}
use Rattle.std.proofs.lemmas.Option.{slice_get_past, slice_get_read}
use Rattle.std.specs.Option.{option_copied, option_map}
use Rattle.std.specs.Global.{Global}
use Rattle.std.specs.Prelude.{◌==◌, Vec, if◌then◌else◌, nat_lt, slice_get, slice_index}
use Rattle.numa_answers.specs.declared.pooled.FromPools.{FromPools}
use Rattle.numa_host.specs.declared.process.Process.{Process}
use Rattle.numa_huge.specs.declared.pages.HugePages.{HugePages}
use Rattle.std.specs.Slice.{IsItemAt}
use Rattle.numa_host_huge.specs.Kept.{HugeKept, lying_of, spots_in, spots_of}
use Rattle.numa_host_huge.specs.Sharing.{HugeHome, Sharing, given_back, given_if, home_of, lent}
use Rattle.numa_host_huge.specs.Sharing.{memory_in}
use Rattle.numa_host_huge.specs.Standing.{AreHomes, Changes, HugeLies, LiesApart}
use Rattle.numa_host_huge.specs.declared.sharer.Sharer.{Sharer}
use Rattle.numa_huge.specs.Huge.{HugeLying, HugePlaced, huge_at, places_of}
use Rattle.numa_huge.specs.Moves.{HugeArrival, HugeMemory, HugeTouch}
use Rattle.numa_huge.specs.Tallies.{HasArrived, IsTouch}
use Rattle.numa_huge.specs.declared.arrived.HugeArrived.{HugeArrived}
use Rattle.numa_huge.specs.declared.spot.HugeSpot.{HugeSpot}
use Rattle.numa_page_state.specs.Huge.{has_huge_in}
use Rattle.numa_placed.specs.Laid.{Laid}
use Rattle.numa_placed.specs.Spots.{changed_spots, stated_spot}
use Rattle.numa_placed.specs.declared.spot.Spot.{Spot}
use Rattle.numa_pools.specs.Pools.{PoolCounts}
use Rattle.numa_ranges.specs.Runs.{in_pages}
use Rattle.numa_ranges.proofs.Apart.{in_pages-above, in_pages-below, in_pages-true}
use Rattle.numa_sheets.specs.declared.asked.Touch.{Touch}
use Rattle.numa_space.specs.History.{page_count, page_of}
use Rattle.numa_space.specs.Standing.{SpaceState}
use Rattle.numa_words.specs.Touching.{IsAdded, kept_then, part_spot, parts_node, spots_there}
use Rattle.numa_words.specs.Touching.{stated_or, touch_in, touched_in, touched_where, with_parts}
use Rattle.numa_words.specs.Touching.{AllLie, IsTold, LieSo, Told, counted, held, is_asked}
use Rattle.numa_words.specs.Touching.{left_by, spots_if, told_by, told_from, told_if}
use Rattle.numa_words.specs.Touching.{with_lying, with_parts_if}
use Rattle.numa_words.specs.declared.touching.Touched.{Touched}

-- ---- the parts of pages of which the same is known

if-same : {A : Type 0} (b : Bool) (x : A) → x ≡ (if b then x else x)
if-same true x = refl
if-same false x = refl

abbrev pub run_spot : Option ℕ → Option HugeSpot → ℕ → ℕ → (ℕ → Spot) → ℕ → Spot
run_spot spare spot first n there page =
    if in_pages (first * 512) (n * 512) page then part_spot spare spot (there page) else there page

-- they have no node
pub run-none : (spare : Option ℕ) (spot : Option HugeSpot) (first n : ℕ) (there : ℕ → Spot)
    (page : ℕ) → parts_node spare spot ≡ None → there page ≡ run_spot spare spot first n there page
run-none spare spot first n there page is =
    if-same (in_pages (first * 512) (n * 512) page) (there page)
    ∙ ap (λ (s : Spot). if in_pages (first * 512) (n * 512) page then s else there page)
    (sym (ap (stated_or (there page)) is))

-- or lie on one
pub run-set : (spare : Option ℕ) (spot : Option HugeSpot) (first n node : ℕ)
    (there new : ℕ → Spot) (page : ℕ) → parts_node spare spot ≡ Some node
    → new page ≡ changed_spots (first * 512) (n * 512) (stated_spot node) there page
    → new page ≡ run_spot spare spot first n there page
run-set spare spot first n node there new page is so =
    so ∙ ap (λ (s : Spot). if in_pages (first * 512) (n * 512) page then s else there page)
    (sym (ap (stated_or (there page)) is))

-- ---- those of all pages, so far

abbrev pub spot_until : Option ℕ → (ℕ → Option HugeSpot) → (ℕ → Spot) → ℕ → ℕ → Spot
spot_until spare spots there end page =
    if nat_lt page (end * 512) then with_parts spare spots there page else there page

abbrev pub LieUntil : Option ℕ → (ℕ → Option HugeSpot) → (ℕ → Spot) → (ℕ → Spot) → ℕ → Type 0
LieUntil spare spots there lying end =
    (page : ℕ) → lying page ≡ spot_until spare spots there end page

pub until-none : (spare : Option ℕ) (spots : ℕ → Option HugeSpot) (there : ℕ → Spot)
    → LieUntil spare spots there there 0
until-none spare spots there page =
    let past : nat_lt page (0 * 512) ≡ false = le-ltb page (0 * 512) (omega arith) in
    rw past refl

pub until-next : (spare : Option ℕ) (spots : ℕ → Option HugeSpot) (there lying new : ℕ → Spot)
    (first next : ℕ) → first < next
    → ((other : ℕ) → first ≤ other → other < next → spots other ≡ spots first)
    → LieUntil spare spots there lying first
    → ((page : ℕ) → new page ≡ run_spot spare (spots first) first (next - first) lying page)
    → LieUntil spare spots there new next
until-next spare spots there lying new first next rises alike so then_so page = elim (cases_lt page
    (first * 512)) [
      | inl low ↦
          let was : nat_lt page (first * 512) ≡ true = lt-ltb page (first * 512) low in
          let is : nat_lt page (next * 512) ≡ true =
          lt-ltb page (next * 512) (omega (arith, low, rises)) in
          then_so page
          ∙ ap (λ (b : Bool). if b then part_spot spare (spots first) (lying page) else lying page)
          (in_pages-below (first * 512) ((next - first) * 512) page low)
          ∙ so page
          ∙ ap (λ (b : Bool). if b then with_parts spare spots there page else there page)
          (was ∙ sym is)
      | inr high ↦ elim (cases_lt page (next * 512)) [
        | inl low ↦
            let was : nat_lt page (first * 512) ≡ false = le-ltb page (first * 512) high in
            let is : nat_lt page (next * 512) ≡ true = lt-ltb page (next * 512) low in
            let old : lying page ≡ there page = so page
            ∙ ap (λ (b : Bool). if b then with_parts spare spots there page else there page) was in
            then_so page
            ∙ ap (λ (b : Bool). if b then part_spot spare (spots first) (lying page)
            else lying page)
            (in_pages-true (first * 512) ((next - first) * 512) page high
            (omega (arith, low, high, rises)))
            ∙ ap (part_spot spare (spots first)) old
            ∙ ap (λ (s : Option HugeSpot). part_spot spare s (there page))
            (sym (alike (page / 512) (omega (arith, high)) (omega (arith, low))))
            ∙ ap (λ (b : Bool). if b then with_parts spare spots there page else there page)
            (sym is)
        | inr over ↦
            let was : nat_lt page (first * 512) ≡ false = le-ltb page (first * 512) high in
            let is : nat_lt page (next * 512) ≡ false = le-ltb page (next * 512) over in
            then_so page
            ∙ ap (λ (b : Bool). if b then part_spot spare (spots first) (lying page)
            else lying page)
            (in_pages-above (first * 512) ((next - first) * 512) page
            (omega (arith, over, high, rises)))
            ∙ so page
            ∙ ap (λ (b : Bool). if b then with_parts spare spots there page else there page)
            (was ∙ sym is)
      ]
    ]

pub until-end : (spare : Option ℕ) (spots : ℕ → Option HugeSpot) (there lying : ℕ → Spot)
    (end : ℕ) → 67108864 ≤ end → LieUntil spare spots there lying end → (page : ℕ)
    → page < 34359738368 → lying page ≡ with_parts spare spots there page
until-end spare spots there lying end all so page below =
    let is : nat_lt page (end * 512) ≡ true = lt-ltb page (end * 512) (omega (arith, all, below)) in
    so page
    ∙ ap (λ (b : Bool). if b then with_parts spare spots there page else there page) is

-- ---- what is lent of a list

pub item-got : {X : Type 0} (xs : List X) (i : ℕ) (r : Option (Bor X)) → IsItemAt xs i r
    → option_copied r ≡ slice_get xs i
item-got xs i None so = sym (slice_get_past xs i so.3)
item-got xs i (Some x) so =
    sym (slice_get_read xs (length xs) i x.now refl so.3.0 so.1)

-- ---- a process of a host

abbrev pub spots_home : Option HugeHome → ℕ → Option HugeSpot
spots_home None = λ page. None
spots_home (Some home) = home.spots

pick-spots : (is : Bool) (one rest : ℕ → Option HugeSpot) (home : HugeHome)
    (other : Option HugeHome) → one ≡ home.spots → rest ≡ spots_home other
    → (if is then one else rest) ≡ spots_home (if is then Some home else other)
pick-spots true one rest home other same so = same
pick-spots false one rest home other same so = so

pub kept-spots : (sharers : List Sharer) (homes : List HugeHome) → AreHomes sharers homes
    → (process : ℕ) → spots_in process sharers ≡ spots_home (home_of process homes)
kept-spots [] [] are process = refl
kept-spots [] (home ∷ homes) are process = absurd are
kept-spots (sharer ∷ sharers) [] are process = absurd are
kept-spots (sharer ∷ sharers) (home ∷ homes) are process =
    ap (λ (id : ℕ). if id == process then spots_of sharer else spots_in process sharers) are.0.id
    ∙ pick-spots (home.id == process) (spots_of sharer) (spots_in process sharers) home
    (home_of process homes) (ap (λ (l : HugeLying). l.spots) are.0.pages.1.pages)
    (kept-spots sharers homes are.1 process)

lying-so : (pools one : PoolCounts) (spots other : ℕ → Option HugeSpot) → pools ≡ one
    → spots ≡ other → ◌≡◌ {A = HugeLying} (record { pools = pools; spots = spots })
    (record { pools = one; spots = other })
lying-so pools one spots other same alike = λ i. record {
  pools = same i;
  spots = alike i;
}

pub kept-lying : (kept : HugeKept) (at : Sharing) (process : ℕ) (memory : HugeMemory)
    → HugeLies kept at → memory_in process at ≡ Some memory
    → lying_of process kept ≡ memory.pages
kept-lying kept at process memory lies is = by (home_of process at.homes) refl
  where
    by : (home : Option HugeHome) → home_of process at.homes ≡ home
        → lying_of process kept ≡ memory.pages
    by None none = absurd (none-some memory
        (sym (ap (option_map (lent at.pools)) none) ∙ is))
      where
        none-some : (memory : HugeMemory) → None ≡ Some memory → ⊥
        none-some memory is = cc
    by (Some home) some =
        lying-so kept.pools at.pools (spots_in process kept.sharers) home.spots lies.pools
        (kept-spots kept.sharers at.homes lies.homes process ∙ ap spots_home some)
        ∙ ap (λ (m : HugeMemory). m.pages) (some-same (lent at.pools home) memory
        (sym (ap (option_map (lent at.pools)) some) ∙ is))
      where
        some-same : (one other : HugeMemory) → Some one ≡ Some other → one ≡ other
        some-same one other is = cc

-- it has none there
pub not-touched : (process start bytes n : ℕ) (space : SpaceState) (touch : Touch) (at : Sharing)
    → n ≡ page_count bytes → has_huge_in (memory_in process at) (page_of start) n ≡ false
    → touched_in process space touch start bytes at ≡ (at, 0)
not-touched process start bytes n space touch at same none =
    ap (λ (b : Bool). touched_where b process (touch_in space touch start bytes)
    (memory_in process at) at)
    (ap (has_huge_in (memory_in process at) (page_of start)) (sym same) ∙ none)
    ∙ by (memory_in process at)
  where
    by : (memory : Option HugeMemory) → touched_where false process
        (touch_in space touch start bytes) memory at ≡ (at, 0)
    by None = refl
    by (Some memory) = refl

-- or some
pub was-touched : (old mid new : HugeKept) (process start bytes n : ℕ) (space : SpaceState)
    (touch : Touch) (places : HugePlaced) (arrived : HugeArrived) (at : Sharing)
    → n ≡ page_count bytes → has_huge_in (memory_in process at) (page_of start) n ≡ true
    → HugeLies old at → HugeLies mid at
    → ((memory : HugeMemory) → lying_of process old ≡ memory.pages
    → IsTouch (touch_in space touch start bytes memory) places arrived)
    → ((told : HugeArrival) → HasArrived arrived told → Changes process mid new
    (λ memory. record memory { pages = places_of places; arrived = Some told }))
    → (arrived.exhausted ≡ (touched_in process space touch start bytes at).1)
    × HugeLies new (touched_in process space touch start bytes at).0
was-touched old mid new process start bytes n space touch places arrived at same has lies then_lies
    touches settles = by (memory_in process at) refl
  where
    by : (memory : Option HugeMemory) → memory_in process at ≡ memory
        → (arrived.exhausted ≡ (touched_in process space touch start bytes at).1)
        × HugeLies new (touched_in process space touch start bytes at).0
    by None is = absurd (both_ways false refl
        (sym (ap (λ (m : Option HugeMemory). has_huge_in m (page_of start) n) is) ∙ has))
    by (Some memory) is =
        let walk : HugeTouch = touch_in space touch start bytes memory in
        let so = touches memory (kept-lying old at process memory lies is) in
        let left : touched_in process space touch start bytes at
        ≡ (given_back process (kept_then walk memory) at, walk.arrived.exhausted) =
        ap (λ (b : Bool). touched_where b process (touch_in space touch start bytes)
        (memory_in process at) at)
        (ap (has_huge_in (memory_in process at) (page_of start)) (sym same) ∙ has)
        ∙ ap (λ (m : Option HugeMemory). touched_where true process
        (touch_in space touch start bytes) m at) is in
        let then_kept : HugeMemory → HugeMemory = λ memory. record memory {
          pages = places_of places;
          arrived = Some walk.arrived;
        } in
        let kept : HugeLies new (given_back process (then_kept memory) at) =
        subst (λ (m : Option HugeMemory). HugeLies new (given_if process (option_map then_kept m)
        at)) is (settles walk.arrived so.arrived_is at then_lies) in (
          so.arrived_is.exhausted ∙ sym (ap (λ (p : Sharing × ℕ). p.1) left),
          subst (λ (p : Sharing × ℕ). HugeLies new p.0) (sym left)
              (subst (λ (l : HugeLying). HugeLies new (given_back process (record memory {
                pages = l;
                arrived = Some walk.arrived;
              }) at)) so.pages kept),
        )

-- ---- what is added to an empty list

pub added-first : (old new there : List Laid) (spare : Option ℕ) (huge : HugePlaced)
    (spots : ℕ → Option HugeSpot) → old ≡ [] → huge_at huge.runs ≡ spots
    → IsAdded old new (with_parts_if spare (Some (huge_at huge.runs))
    (spots_there (slice_get there (length old))))
    → IsAdded [] new (with_parts spare spots (spots_there (slice_get there 0)))
added-first old new there spare huge spots empty is so = record {
  last = so.last;
  added = so.added ∙ ap (λ (xs : List Laid). xs ++ so.last ∷ []) empty;
  lies = λ page below. so.lies page below
      ∙ ap (λ (xs : List Laid). with_parts spare (huge_at huge.runs)
      (spots_there (slice_get there (length xs))) page) empty
      ∙ ap (λ (s : ℕ → Option HugeSpot). with_parts spare s (spots_there (slice_get there 0)) page)
      is;
}

-- ---- the processes of a host

-- a process has the pages that are kept apart for it
pub spots-apart : (kept : HugePages) (at : Sharing) (process : ℕ)
    → (home : HugeHome) × (home_of process at.homes ≡ Some home) × LiesApart kept home
    → Some (huge_at kept.places.runs) ≡ spots_if (memory_in process at)
spots-apart kept at process so =
    ap (λ (l : HugeLying). Some l.spots) so.2.1.pages
    ∙ sym (ap (λ (h : Option HugeHome). spots_if (option_map (lent at.pools) h)) so.1)

all-more : (items : List Laid) (lying : List (ℕ → Spot)) (last : Laid) (spots : ℕ → Spot)
    → AllLie items lying → LieSo last spots
    → AllLie (items ++ last ∷ []) (lying ++ spots ∷ [])
all-more [] [] last spots all so = (so, tt)
all-more [] (one ∷ lying) last spots all so = absurd all
all-more (item ∷ items) [] last spots all so = absurd all
all-more (item ∷ items) (one ∷ lying) last spots all so =
    (all.0, all-more items lying last spots all.1 so)

all-long : (items : List Laid) (lying : List (ℕ → Spot)) → AllLie items lying
    → length items ≡ length lying
all-long [] [] all = refl
all-long [] (one ∷ lying) all = absurd all
all-long (item ∷ items) [] all = absurd all
all-long (item ∷ items) (one ∷ lying) all = ap suc (all-long items lying all.1)

pub told-more : (old : Touched) (said : FromPools) (lying : Vec Laid Global) (spare : Option ℕ)
    (there : List Laid) (spots : Option (ℕ → Option HugeSpot)) (told : Told) → IsTold old told
    → ((node : ℕ) → node < 256
    → slice_index said.on node ≡ counted spots node (slice_index old.said.on node))
    → said.exhausted ≡ old.said.exhausted
    → IsAdded old.lying.items lying.items (with_parts_if spare spots
    (spots_there (slice_get there (length old.lying.items))))
    → IsTold (record { said = said; lying = lying }) (with_lying spare there spots told)
told-more old said lying spare there spots told so on exhausted added = record {
  on = λ node small. on node small
      ∙ ap (counted spots node) (so.on node small);
  exhausted = exhausted ∙ so.exhausted;
  lying = subst (λ (items : List Laid). AllLie items (with_lying spare there spots told).lying)
      (sym added.added) (all-more old.lying.items told.lying added.last
      (with_parts_if spare spots (spots_there (slice_get there (length told.lying)))) so.lying
      (subst (λ (n : ℕ). LieSo added.last (with_parts_if spare spots
      (spots_there (slice_get there n)))) (all-long old.lying.items told.lying so.lying)
      added.lies));
}

-- where the pages lie that are there
pub so-beside : (spare : Option ℕ) (spots : Option (ℕ → Option HugeSpot)) (lying : Laid)
    (there other : ℕ → Spot) → LieSo lying (with_parts_if spare spots there)
    → ((page : ℕ) → there page ≡ other page) → LieSo lying (with_parts_if spare spots other)
so-beside spare None lying there other so same page below = so page below ∙ same page
so-beside spare (Some spots) lying there other so same page below =
    so page below ∙ ap (part_spot spare (spots (page / 512))) (same page)

-- how many of a process no node gave
pub left-more : (touched : Touched) (exhausted sum : ℕ) (left : Sharing × ℕ) (told : Told)
    → IsTold touched told → exhausted ≡ left.1
    → sum ≡ held (touched.said.exhausted + exhausted)
    → IsTold (record touched { said = record touched.said { exhausted = sum } }) (left_by left told)
left-more touched exhausted sum left told so is sums = record {
  on = so.on;
  exhausted = sums ∙ (λ i. held (so.exhausted i + is i));
  lying = so.lying;
}

pub asked-not : (process : Option ℕ) (touch : Touch) (there : List Laid) (one : Process)
    (told : Told) → is_asked process one.id ≡ false → told ≡ told_if process touch there one told
asked-not process touch there one told is =
    sym (ap (λ (b : Bool). if b then told_by touch there one told else told) is)

pub asked-so : (process : Option ℕ) (touch : Touch) (there : List Laid) (one : Process)
    (told : Told) → is_asked process one.id ≡ true
    → told_by touch there one told ≡ told_if process touch there one told
asked-so process touch there one told is =
    sym (ap (λ (b : Bool). if b then told_by touch there one told else told) is)

-- none was told of
pub told-none : (said : FromPools) (lying : Vec Laid Global) (at : Sharing)
    → ((node : ℕ) → node < 256 → slice_index said.on node ≡ 0) → said.exhausted ≡ 0
    → lying.items ≡ [] → IsTold (record { said = said; lying = lying }) (told_from at)
told-none said lying at on exhausted none = record {
  on = on;
  exhausted = exhausted;
  lying = subst (λ (items : List Laid). AllLie items []) (sym none) tt;
}
