-- First touches of one page.
use Rattle.std.proofs.Common.{◌≡◌, ℕ, ◌*◌, Bool, true, false, Option, Some, None, List, [], refl}
use Rattle.std.proofs.Common.{sym, ap, subst, ◌∙◌}
use Rattle.std.specs.Prelude.{if◌then◌else◌, IfErr, IfOk, IsSomeAnd, OnErr, Result, Ok, Err}
use Rattle.numa_machine.specs.declared.no_memory.NoMemory.{NoMemory}
use Rattle.numa_maps.specs.Residents.{placed_at}
use Rattle.numa_placed.specs.Binds.{nodes_in}
use Rattle.numa_placed.specs.Spots.{node_of as small_node, spot_at}
use Rattle.numa_requests.specs.declared.page_refusal.PlacedRefusal.{PlacedRefusal}
use Rattle.numa_requests.specs.declared.page_refusal.PlacedRefusal.TheVariants as cause
use Rattle.numa_requests.specs.declared.placement.Placement.{Placement}
use Rattle.numa_placed.specs.declared.spot.Spot.{Spot}
use Rattle.numa_space.specs.History.{page_count, page_of}
use Rattle.numa_space.specs.Standing.{SpaceState}
use Rattle.numa_huge.specs.Huge.{HugeLying, HugePlaced, faulting, giver_for, huge_at, lack_for}
use Rattle.numa_huge.specs.Huge.{node_of, places_of, too_many, with_span}
use Rattle.numa_huge.specs.Moves.{HugeMemory, touch_from, touched_pages}
use Rattle.numa_huge.specs.Tallies.{IsFaultLack, IsLackFor, IsTouch}
use Rattle.numa_huge.specs.declared.arrived.HugeArrived.{HugeArrived}
use Rattle.numa_huge.specs.declared.spot.HugeSpot.{HugeSpot}
use Rattle.numa_huge.specs.declared.spot.HugeSpot.TheVariants.{On}
use Rattle.numa_page_state.specs.Huge.{HugeFaults, fault_lack, fault_outcome, given_fault}
use Rattle.numa_page_state.specs.Huge.{huge_count, huge_fault_at, huge_first, small_fault}
use Rattle.numa_page_state.specs.Huge.{told_fault, touch_walk}
use Rattle.numa_page_state.specs.Lying.{Ground, Lying, ground_in}
use Rattle.numa_page_state.specs.Outcomes.{Enough, Lack, Starved, is_starved}
use Rattle.numa_page_state.specs.Standing.{DoesAs, LiesAs}
use Rattle.numa_page_state.specs.Touching.{populate_outcome}
use Rattle.numa_page_state.specs.declared.state.PageState.{PageState}
use Rattle.numa_page_state.proofs.Answered.{done}

-- what comes of one where memory lacks
abbrev pub fault_lacks : Result (Option ℕ) PlacedRefusal
fault_lacks = Err cause.NoMemory

abbrev pub given_node : Option ℕ → Result (Option ℕ) PlacedRefusal
given_node node = Ok node

-- ---- of 4 KiB

-- a page that keeps a frame
pub fault-held : (old : PageState) (basis : Ground) (task address cpu : ℕ) (placement : Placement)
    → placed_at basis.kept (page_of address) ≡ Some placement
    → DoesAs old (given_node (Some placement.node)) old fault_lacks (λ lack at.
    fault_outcome lack basis task address cpu at)
fault-held old basis task address cpu placement is lying lies =
    done old old (given_node (Some placement.node)) fault_lacks
    (λ lack. fault_outcome lack basis task address cpu lying) lying
    (ap (λ (p : Option Placement). small_fault p Enough basis task (page_of address) cpu lying) is)
    lies

-- by the outcome for the page of its address
pub fault-bare : (old new : PageState) (result : Result (Option ℕ) PlacedRefusal) (basis : Ground)
    (task address cpu : ℕ) → placed_at basis.kept (page_of address) ≡ None
    → DoesAs old result new fault_lacks (λ lack at.
    small_fault None lack basis task (page_of address) cpu at)
    → DoesAs old result new fault_lacks (λ lack at. fault_outcome lack basis task address cpu at)
fault-bare old new result basis task address cpu is does =
    subst (λ (p : Option Placement). DoesAs old result new fault_lacks (λ lack at.
    small_fault p lack basis task (page_of address) cpu at)) (sym is) does

told-ok : (page : ℕ) (o : Result (Unit {0}) PlacedRefusal × Lying) → o.0 ≡ Ok tt
    → told_fault page o ≡ (given_node (small_node (o.1.spots page)), o.1)
told-ok page (Ok done, at) is = refl
told-ok page (Err why, at) is = cc

told-err : (page : ℕ) (o : Result (Unit {0}) PlacedRefusal × Lying) (why : PlacedRefusal)
    → o.0 ≡ Err why → told_fault page o ≡ (Err why, o.1)
told-err page (Ok done, at) why is = cc
told-err page (Err other, at) why is =
    ap {B = Result (Option ℕ) PlacedRefusal × Lying}
    (λ (r : Result (Unit {0}) PlacedRefusal). told_fault page (r, at)) is

-- why it was refused
abbrev err_in : Result (Unit {0}) PlacedRefusal → PlacedRefusal
err_in (Ok done) = cause.NoMemory
err_in (Err why) = why

module _ (old new : PageState) (basis : Ground) (task page cpu : ℕ) where
  abbrev Populates : Result (Unit {0}) PlacedRefusal → Type 0
  Populates result = DoesAs old result new (Err cause.NoMemory) (λ lack at.
      populate_outcome lack basis (page * 4096) 4096 task cpu at)

  abbrev Faults : Result (Option ℕ) PlacedRefusal → Type 0
  Faults result = DoesAs old result new fault_lacks (λ lack at.
      small_fault None lack basis task page cpu at)

  pub fault-done : (node : Option ℕ) → node ≡ small_node (spot_at new.placed page)
      → Populates (Ok tt) → Faults (given_node node)
  fault-done node is populates lying lies =
      let done = populates lying lies in
      let told = told-ok page (populate_outcome done.0 basis (page * 4096) 4096 task cpu lying)
      done.2 in (
        done.0,
        subst (λ (o : Result (Option ℕ) PlacedRefusal × Lying). LiesAs new o.1) (sym told) done.1,
        ap (λ (o : Result (Option ℕ) PlacedRefusal × Lying). o.0) told
            ∙ ap (λ (s : Spot). given_node (small_node s)) (sym (done.1.spots page))
            ∙ ap given_node (sym is),
        λ starved. let odd : Ok tt ≡ Err cause.NoMemory = (done.3 starved).1 in absurd (cc),
      )

  pub fault-refused : (why : PlacedRefusal) → Populates (Err why) → Faults (Err why)
  fault-refused why populates lying lies =
      let done = populates lying lies in
      let told = told-err page (populate_outcome done.0 basis (page * 4096) 4096 task cpu lying) why
      done.2 in (
        done.0,
        subst (λ (o : Result (Option ℕ) PlacedRefusal × Lying). LiesAs new o.1) (sym told) done.1,
        ap (λ (o : Result (Option ℕ) PlacedRefusal × Lying). o.0) told,
        λ starved. (
          (done.3 starved).0,
          ap {B = Result (Option ℕ) PlacedRefusal}
              (λ (w : PlacedRefusal). Err w) (ap err_in (done.3 starved).1),
        ),
      )

-- ---- of 2 MiB

pub lack_by : Bool → Lack
lack_by true = Starved
lack_by false = Enough

pub starved-by : (starved : Bool) → is_starved (lack_by starved) ≡ starved
unfolding lack_by
starved-by true = refl
starved-by false = refl

-- that memory lacked is told
pub starved-why : (after : ℕ → Option HugeSpot) (starved : Bool) (why : PlacedRefusal)
    → lack_for starved after ≡ Some why → is_starved (lack_by starved) ≡ true
    → why ≡ cause.NoMemory
starved-why after true why is on = let said : Some cause.NoMemory ≡ Some why = is in cc
starved-why after false why is odd = let no : false ≡ true = sym (starved-by false) ∙ odd in
    absurd (cc)

module _ (old : HugePlaced) (page : ℕ) (nodes : List ℕ) where
  abbrev huge : HugeLying
  huge = places_of old

  abbrev Outcome : Type 0
  Outcome = Result (Option ℕ) PlacedRefusal × HugeLying

  -- it lies somewhere already
  pub huge-there : (node : ℕ) → node_of (huge.spots page) ≡ Some node
      → HugeFaults old (given_node (Some node)) old page nodes
  huge-there node is = (
    Enough,
    ap (λ (lies : Option ℕ). (huge_fault_at lies Enough page nodes huge).0) is,
    ap (λ (lies : Option ℕ). (huge_fault_at lies Enough page nodes huge).1) is,
    λ odd. absurd (cc),
  )

  -- a node gave it, or none did
  abbrev given_by : Lack → Option ℕ → Outcome
  given_by lack given = given_fault (fault_lack (is_starved lack) given page huge) given page huge

  -- the runs are few then
  few-given : (given : Option ℕ) (after : HugeLying) → after ≡ faulting given page huge
      → too_many after.spots ≡ false → fault_lack false given page huge ≡ None
  few-given None after is few = refl
  few-given (Some node) after is few =
      let so : too_many (with_span page 1 (Some (On node)) huge.spots) ≡ false =
      ap (λ (h : HugeLying). too_many h.spots) (sym is) ∙ few in rw so refl

  pub huge-given : (new : HugePlaced) (given : Option ℕ) → node_of (huge.spots page) ≡ None
      → given ≡ giver_for huge page nodes → places_of new ≡ faulting given page huge
      → too_many (huge_at new.runs) ≡ false → HugeFaults old (given_node given) new page nodes
  huge-given new given nowhere gives is few =
      let outcome : huge_fault_at (node_of (huge.spots page)) Enough page nodes huge
      ≡ (given_node given, faulting given page huge) =
      ap (λ (lies : Option ℕ). huge_fault_at lies Enough page nodes huge) nowhere
      ∙ ap (given_by Enough) (sym gives)
      ∙ ap (λ (why : Option PlacedRefusal). given_fault why given page huge)
      (few-given given (places_of new) is few) in (
        Enough,
        ap (λ (o : Outcome). o.0) outcome,
        ap (λ (o : Outcome). o.1) outcome ∙ sym is,
        λ odd. absurd (cc),
      )

  refused-by : (given : Option ℕ) (why : PlacedRefusal) → IsSomeAnd given (λ node.
      IsLackFor (with_span page 1 (Some (On node)) huge.spots) why)
      → (lack : Lack) × (given_by lack given ≡ (Err why, huge))
      × (is_starved lack ≡ true → why ≡ cause.NoMemory)
  refused-by None why lacks = absurd lacks
  refused-by (Some node) why lacks = (
    lack_by lacks.0,
    ap (λ (l : Option PlacedRefusal). given_fault l (Some node) page huge)
        (ap (λ (b : Bool). lack_for b (with_span page 1 (Some (On node)) huge.spots))
        (starved-by lacks.0) ∙ lacks.1),
    starved-why (with_span page 1 (Some (On node)) huge.spots) lacks.0 why lacks.1,
  )

  pub huge-lacks : (new : HugePlaced) (why : PlacedRefusal) → node_of (huge.spots page) ≡ None
      → IsFaultLack huge page nodes why → new ≡ old
      → HugeFaults old (Err why) new page nodes
  huge-lacks new why nowhere lacks same =
      let refused = refused-by (giver_for huge page nodes) why lacks in
      let outcome : huge_fault_at (node_of (huge.spots page)) refused.0 page nodes huge
      ≡ (Err why, huge) =
      ap (λ (lies : Option ℕ). huge_fault_at lies refused.0 page nodes huge) nowhere
      ∙ refused.1 in (
        refused.0,
        ap (λ (o : Outcome). o.0) outcome,
        ap (λ (o : Outcome). o.1) outcome ∙ ap places_of (sym same),
        λ on. ap {B = Result (Option ℕ) PlacedRefusal} (λ (w : PlacedRefusal). Err w)
            (refused.2 on),
      )

  -- by what the call came to
  pub huge-came : (new : HugePlaced) (result : Result (Option ℕ) PlacedRefusal)
      → node_of (huge.spots page) ≡ None
      → IfOk result (λ given. given ≡ giver_for huge page nodes)
      → IfOk result (λ given. places_of new ≡ faulting given page huge)
      → IfErr result (IsFaultLack huge page nodes) → OnErr result (new ≡ old)
      → too_many (huge_at new.runs) ≡ false → HugeFaults old result new page nodes
  huge-came new (Ok given) nowhere gives is lacks same few =
      huge-given new given nowhere gives is few
  huge-came new (Err why) nowhere gives is lacks same few = huge-lacks new why nowhere lacks same

-- ---- of a span

touch-same : (space : SpaceState) (memory : HugeMemory) (start bytes task cpu : ℕ)
    (huge after : HugePlaced) (arrived : HugeArrived) (first pages : ℕ)
    → places_of huge ≡ memory.pages → first ≡ huge_first (page_of start)
    → pages ≡ huge_count (page_of start) (page_count bytes)
    → IsTouch (touched_pages (λ page. nodes_in space task cpu (page * 512)) first pages
    (touch_from (places_of huge))) after arrived
    → IsTouch (touch_walk (ground_in space []) start bytes task cpu memory) after arrived
touch-same space memory start bytes task cpu huge after arrived first pages is f p touch =
    subst (λ (h : HugeLying). IsTouch (touched_pages (λ page. nodes_in space task cpu (page * 512))
    (huge_first (page_of start)) (huge_count (page_of start) (page_count bytes)) (touch_from h))
    after arrived) is
    (subst (λ (n : ℕ). IsTouch (touched_pages (λ page. nodes_in space task cpu (page * 512))
    (huge_first (page_of start)) n (touch_from (places_of huge))) after arrived) p
    (subst (λ (n : ℕ). IsTouch (touched_pages (λ page. nodes_in space task cpu (page * 512))
    n pages (touch_from (places_of huge))) after arrived) f touch))

pub touch-if : (space : SpaceState) (memory : HugeMemory) (start bytes task cpu : ℕ)
    (huge : HugePlaced) (result : Result (HugePlaced × HugeArrived) NoMemory) (first pages : ℕ)
    → places_of huge ≡ memory.pages → first ≡ huge_first (page_of start)
    → pages ≡ huge_count (page_of start) (page_count bytes)
    → IfOk result (λ done. IsTouch (touched_pages (λ page. nodes_in space task cpu (page * 512))
    first pages (touch_from (places_of huge))) done.0 done.1)
    → IfOk result (λ done. IsTouch (touch_walk (ground_in space []) start bytes task cpu memory)
    done.0 done.1)
touch-if space memory start bytes task cpu huge (Ok done) first pages is f p touch =
    touch-same space memory start bytes task cpu huge done.0 done.1 first pages is f p touch
touch-if space memory start bytes task cpu huge (Err why) first pages is f p touch = tt
