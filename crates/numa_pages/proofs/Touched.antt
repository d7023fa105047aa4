-- First touches of pages of either size.
use Rattle.std.proofs.Common.{◌≡◌, ℕ, ◌+◌, ◌*◌, ◌<◌, ◌≤◌, Bool, true, false, Option, Some, None, Ok}
use Rattle.std.proofs.Common.{List, Err, refl, sym, ap, subst, ◌∙◌, arith, inl, inr, is_some, []}
use Rattle.std.proofs.lemmas.Bool.{both_ways, cases_Bool}
use Rattle.std.specs.Prelude.{OnErr, Result, if◌then◌else◌, slice_index}
use Rattle.numa_core.specs.Standing.{CoreState}
use Rattle.numa_machine.specs.declared.refusal.PlaceRefusal.{PlaceRefusal}
use Rattle.numa_requests.specs.declared.command.Command.{Command}
use Rattle.numa_requests.specs.declared.page_refusal.HugeRefusal.{HugeRefusal}
use Rattle.numa_requests.specs.declared.page_refusal.HugeRefusal.TheVariants as because
use Rattle.numa_requests.specs.declared.page_refusal.PlacedRefusal.{PlacedRefusal}
use Rattle.numa_requests.specs.declared.page_refusal.PlacedRefusal.TheVariants as cause
use Rattle.numa_space.specs.History.{page_of}
use Rattle.numa_ranges.specs.Runs.{page_at}
use Rattle.numa_space.specs.Standing.{SpaceState, StandsFor, list_in, place_refusal_in}
use Rattle.numa_space.specs.Standing.{place_refusal_of}
use Rattle.numa_maps.specs.Residents.{Kept}
use Rattle.numa_placed.specs.Binds.{list_unless, nodes_in}
use Rattle.numa_huge.specs.Huge.{HugeLying, HugePlaced, places_of}
use Rattle.numa_huge.specs.Moves.{HugeMemory}
use Rattle.numa_huge.specs.Tallies.{IsTouch}
use Rattle.numa_huge.specs.declared.arrived.HugeArrived.{HugeArrived}
use Rattle.numa_huge.specs.declared.spot.HugeSpot.{HugeSpot}
use Rattle.numa_page_state.specs.Huge.{HugeFaults, as_if_there, beside_parts, both_populated}
use Rattle.numa_page_state.specs.Huge.{fault_outcome, huge_page, huge_populated, populated_with}
use Rattle.numa_page_state.specs.Huge.{small_populated, touch_walk}
use Rattle.numa_page_state.specs.Lying.{Arrival, Ground, Lying, ground_in}
use Rattle.numa_page_state.specs.Outcomes.{Enough, Lack, Starved, done_with, is_starved}
use Rattle.numa_page_state.specs.Outcomes.{unless_refused}
use Rattle.numa_page_state.specs.Pooling.{place_cause}
use Rattle.numa_page_state.specs.Standing.{ArrivedAs, DoesAs, LiesAs}
use Rattle.numa_page_state.specs.Touching.{populate_outcome, touch_cause, touched_by, with_touched}
use Rattle.numa_page_state.specs.declared.arrived.Arrived.{Arrived}
use Rattle.numa_page_state.specs.declared.state.PageState.{PageState}
use Rattle.numa_page_state.proofs.Few.{arrival-few, touch-few}
use Rattle.numa_pages.specs.Changes.{DoesBoth, Faults, PagesState, Populates, Touches, fault_by}
use Rattle.numa_pages.specs.Changes.{ground_of, huge_in, lacking, untold}
use Rattle.numa_pages.specs.Sizes.{Both, HaveArrived, alone, fault_told, has_huge_among}
use Rattle.numa_pages.specs.Sizes.{huge_arrival}
use Rattle.numa_pages.specs.Sizes.{listed_fault, touch_outcome, without_told}
use Rattle.numa_pages.proofs.Refusing.{lies-so, lying_in}

-- what a call came to, by another outcome that is the same
pub does-by : {A Cause : Type 0} (starved answer : Result A Cause) (before after : PagesState)
    (lack : Lack) (other one : Both A Cause) → other ≡ one → LiesAs after.state one.1.0
    → huge_in after ≡ one.1.1 → one.0 ≡ answer
    → (is_starved lack ≡ true → (after.state ≡ before.state) × (after.huge ≡ before.huge)
    × (answer ≡ starved))
    → LiesAs after.state other.1.0 × (huge_in after ≡ other.1.1) × (other.0 ≡ answer)
    × (is_starved lack ≡ true → (after.state ≡ before.state) × (after.huge ≡ before.huge)
    × (answer ≡ starved))
does-by {A} {Cause} starved answer before after lack other one same lies huge is lacks = (
  subst (λ (o : Both A Cause). LiesAs after.state o.1.0) (sym same) lies,
  huge ∙ sym (ap (λ (o : Both A Cause). o.1.1) same),
  ap (λ (o : Both A Cause). o.0) same ∙ is,
  lacks,
)

-- ---- one page

module _ (task address cpu : ℕ) (before : PagesState) where
  abbrev cause_at : List Command → Option PlaceRefusal
  cause_at history = place_refusal_of before.core.space.machine history (page_of address) cpu

  abbrev outcome_by : Option PlaceRefusal → Lack → Lying → Both ℕ HugeRefusal
  outcome_by why lack at =
      fault_by why lack (ground_of before) task address cpu (huge_in before) at

  abbrev starved_told : Result ℕ HugeRefusal
  starved_told = Err because.NoMemory

  -- it has no list of nodes
  pub fault-refused : (why : PlaceRefusal) → ((history : List Command)
      → StandsFor before.core.space history → cause_at history ≡ Some why)
      → Faults task address cpu before (Err (place_cause why)) before
  fault-refused why refuses = record {
    does = λ history of lying lies.
        let d = does-by starved_told (Err (place_cause why)) before before Enough
        (outcome_by (cause_at history) Enough lying) (outcome_by (Some why) Enough lying)
        (ap (λ (o : Option PlaceRefusal). outcome_by o Enough lying) (refuses history of)) lies
        refl refl (λ odd. absurd (cc)) in
        (Enough, d.0, d.1, d.2, d.3);
    core = refl;
  }

  module _ (free : (history : List Command) → StandsFor before.core.space history
      → cause_at history ≡ None) (after : PagesState) (core : after.core ≡ before.core)
      (answer : Result (Option ℕ) PlacedRefusal) where
    -- of 2 MiB
    pub fault-huge : is_some ((huge_in before).spots (huge_page address)) ≡ true
        → after.state ≡ before.state
        → HugeFaults before.huge answer after.huge (huge_page address)
        ((ground_of before).lists task cpu (page_of address))
        → OnErr answer (after.huge ≡ before.huge)
        → Faults task address cpu before (fault_told because.Killed answer) after
    fault-huge found state done still = record {
      does = λ history of lying lies.
          let d = does-by starved_told (fault_told because.Killed answer) before after done.0
          (outcome_by (cause_at history) done.0 lying) (outcome_by None done.0 lying)
          (ap (λ (o : Option PlaceRefusal). outcome_by o done.0 lying) (free history of))
          (rw found (subst (λ (s : PageState). LiesAs s lying) (sym state) lies))
          (rw found (sym done.2)) (rw found (ap (fault_told because.Killed) done.1))
          (λ on. (
            state,
            subst (λ (r : Result (Option ℕ) PlacedRefusal).
                OnErr r (after.huge ≡ before.huge)) (done.3 on) still,
            ap (fault_told because.Killed) (done.3 on),
          )) in
          (done.0, d.0, d.1, d.2, d.3);
      core = core;
    }

    -- of 4 KiB
    pub fault-small : is_some ((huge_in before).spots (huge_page address)) ≡ false
        → after.huge ≡ before.huge
        → DoesAs before.state answer after.state (Err cause.NoMemory) (λ lack at.
        fault_outcome lack (ground_of before) task address cpu at)
        → Faults task address cpu before (fault_told because.Exhausted answer) after
    fault-small none huge does = record {
      does = λ history of lying lies.
          let d = does lying lies in
          let all = does-by starved_told (fault_told because.Exhausted answer) before after d.0
          (outcome_by (cause_at history) d.0 lying) (outcome_by None d.0 lying)
          (ap (λ (o : Option PlaceRefusal). outcome_by o d.0 lying) (free history of))
          (rw none d.1) (rw none (ap places_of huge))
          (rw none (ap (fault_told because.Exhausted) d.2))
          (λ on. ((d.3 on).0, huge, ap (fault_told because.Exhausted) (d.3 on).1)) in
          (d.0, all.0, all.1, all.2, all.3);
      core = core;
    }

-- its list of nodes, by the space as it was read
pub listed-so : (task address cpu : ℕ) (before : PagesState) (space : SpaceState) (list : List ℕ)
    → space ≡ before.core.space
    → (place_refusal_in space.machine.nodes (is_some (page_at space.ranges (page_of address))) cpu
    ≡ None) × (list ≡ list_in space task (page_of address) cpu)
    → list ≡ (ground_of before).lists task cpu (page_of address)
listed-so task address cpu before space list same is =
    let listed : list ≡ nodes_in space task cpu (page_of address) =
    is.1 ∙ sym (ap (λ (o : Option PlaceRefusal). list_unless o
    (list_in space task (page_of address) cpu)) is.0) in
    subst (λ (s : SpaceState). list ≡ nodes_in s task cpu (page_of address)) same listed

-- by the space and the kept frames as they were read
pub faulted-so : (task address cpu : ℕ) (before : PagesState) (after : PageState)
    (answer : Result (Option ℕ) PlacedRefusal) (space : SpaceState) (kept : Kept)
    → space ≡ before.core.space → kept ≡ []
    → DoesAs before.state answer after (Err cause.NoMemory) (λ lack at.
    fault_outcome lack (ground_in space kept) task address cpu at)
    → DoesAs before.state answer after (Err cause.NoMemory) (λ lack at.
    fault_outcome lack (ground_of before) task address cpu at)
faulted-so task address cpu before after answer space kept same none does =
    subst (λ (s : SpaceState). DoesAs before.state answer after (Err cause.NoMemory) (λ lack at.
    fault_outcome lack (ground_in s []) task address cpu at)) same
    (subst (λ (k : Kept). DoesAs before.state answer after (Err cause.NoMemory) (λ lack at.
    fault_outcome lack (ground_in space k) task address cpu at)) none does)

-- ---- a span

-- of which none has 2 MiB
module _ (start bytes task cpu : ℕ) (before after : PagesState)
    (none : has_huge_among (huge_in before) start bytes ≡ false) where
  pub touched-small : (arrived : Arrived) → Populates start bytes task cpu before (Ok tt) after
      → ((lying : Lying) → LiesAs after.state lying → ArrivedAs arrived lying.arrived)
      → Touches start bytes task cpu before (Ok arrived) after
  touched-small arrived does told = record {
    does = does;
    told = λ lying lies.
        let is = told lying lies in
        rw none (record {
          placed = omega (arith, is.placed);
          exhausted = omega (arith, is.exhausted);
          on = λ node near. omega (arith, is.on node near);
        });
  }

-- few came, or found no room
abbrev pub AreFew : Arrival → Type 0
AreFew arrived = (arrived.placed ≤ 34359738368) × (arrived.exhausted ≤ 34359738368)
    × ((node : ℕ) → arrived.on node ≤ 34359738368)

-- of which some have
module _ (start bytes task cpu : ℕ) (before : PagesState) (lack : Lack) (at : Lying) where
  abbrev basis : Ground
  basis = ground_of before

  abbrev touched : Result (Unit {0}) PlacedRefusal × Lying
  touched = small_populated lack basis start bytes task cpu (alone (huge_in before)) at

  -- what first touches of pages of 4 KiB tell that went well
  pub small-few : touched.0 ≡ Ok tt → AreFew touched.1.arrived
  small-few is = by (is_starved lack) is
    where
      spots : ℕ → Option HugeSpot
      spots = (huge_in before).spots

      fine : (first : Option PlacedRefusal)
          → (beside_parts spots start bytes (unless_refused first (as_if_there spots start bytes at)
          (done_with (with_touched (touched_by basis start bytes task cpu)
          (as_if_there spots start bytes at)))) at).0 ≡ Ok tt
          → AreFew (beside_parts spots start bytes (unless_refused first
          (as_if_there spots start bytes at) (done_with (with_touched (touched_by basis start bytes
          task cpu) (as_if_there spots start bytes at)))) at).1.arrived
      fine None done = arrival-few (touched_by basis start bytes task cpu)
          (as_if_there spots start bytes at)
      fine (Some why) done = cc

      by : (starved : Bool) → (if starved then (Err cause.NoMemory, at)
          else beside_parts spots start bytes (populate_outcome lack basis start bytes task cpu
          (as_if_there spots start bytes at)) at).0 ≡ Ok tt
          → AreFew (if starved then (Err cause.NoMemory, at)
          else beside_parts spots start bytes (populate_outcome lack basis start bytes task cpu
          (as_if_there spots start bytes at)) at).1.arrived
      by true done = cc
      by false done = fine (touch_cause lack basis start bytes task cpu
          (as_if_there spots start bytes at)) done

with-ok : (basis : Ground) (start bytes task cpu : ℕ) (memory : HugeMemory)
    (done : Result (Unit {0}) PlacedRefusal × Lying) → done.0 ≡ Ok tt
    → populated_with basis start bytes task cpu memory done
    ≡ (Ok tt, (done.1, huge_populated basis start bytes task cpu memory))
with-ok basis start bytes task cpu memory (Ok done, at) is = refl
with-ok basis start bytes task cpu memory (Err why, at) is = cc

with-err : (basis : Ground) (start bytes task cpu : ℕ) (memory : HugeMemory)
    (why : PlacedRefusal) (done : Result (Unit {0}) PlacedRefusal × Lying) → done.0 ≡ Err why
    → populated_with basis start bytes task cpu memory done ≡ (Err why, (done.1, memory))
with-err basis start bytes task cpu memory why (Ok done, at) is = cc
with-err basis start bytes task cpu memory why (Err other, at) is =
    let same : other ≡ why = cc in ap (λ (w : PlacedRefusal). (Err w, (at, memory))) same

module _ (start bytes task cpu : ℕ) (before : PagesState)
    (some : has_huge_among (huge_in before) start bytes ≡ true) where
  abbrev memory : HugeMemory
  memory = alone (huge_in before)

  abbrev small : Lack → Lying → Result (Unit {0}) PlacedRefusal × Lying
  small lack at = small_populated lack (ground_of before) start bytes task cpu memory at

  abbrev both : Lack → Lying → Result (Unit {0}) PlacedRefusal × (Lying × HugeMemory)
  both lack at = both_populated lack (ground_of before) start bytes task cpu memory at

  abbrev Done : Type 0
  Done = Both (Unit {0}) PlacedRefusal

  abbrev touch_done : Lack → Lying → Done
  touch_done lack at =
      touch_outcome lack (ground_of before) start bytes task cpu (huge_in before) at

  touch-is : (lack : Lack) (at : Lying) → touch_done lack at ≡ without_told (both lack at)
  touch-is lack at = rw some refl

  both-fed : (lack : Lack) (at : Lying) → is_starved lack ≡ false → both lack at
      ≡ populated_with (ground_of before) start bytes task cpu memory (small lack at)
  both-fed lack at fed = rw fed refl

  both-starved : (lack : Lack) (at : Lying) → is_starved lack ≡ true
      → both lack at ≡ (lacking, (at, memory))
  both-starved lack at starved = rw starved refl

  -- a refusal that changed nothing
  abbrev Came : PagesState → PlacedRefusal → Lack → Lying → Type 0
  Came after why lack at = LiesAs after.state (touch_done lack at).1.0
      × (huge_in after ≡ (touch_done lack at).1.1) × ((touch_done lack at).0 ≡ Err why)
      × (is_starved lack ≡ true → (after.state ≡ before.state) × (after.huge ≡ before.huge)
      × (untold (Err why) ≡ lacking))

  -- pages of both sizes were touched
  pub touched-both : (after : PagesState) (own : Arrived) (came : HugeArrived) (told : Arrived)
      → after.core ≡ before.core
      → DoesAs before.state (Ok tt) after.state lacking (λ lack at. small lack at)
      → IsTouch (touch_walk (ground_of before) start bytes task cpu memory) after.huge came
      → ((lying : Lying) → LiesAs after.state lying → ArrivedAs own lying.arrived)
      → told.placed ≡ own.placed + came.placed → told.exhausted ≡ own.exhausted + came.exhausted
      → ((node : ℕ) → node < 256
      → slice_index told.on node ≡ slice_index own.on node + slice_index came.on node)
      → Touches start bytes task cpu before (Ok told) after
  touched-both after own came told core does touch arrived placed exhausted on = record {
    does = record {
      does = λ lying lies.
          let d = does lying lies in
          let fed : is_starved d.0 ≡ false = elim (cases_Bool (is_starved d.0)) [
            | inl odd ↦ absurd (ok-lacks (d.3 odd).1)
            | inr fed ↦ fed
          ] in
          let is : both d.0 lying ≡ (
            Ok tt,
            (
              (small d.0 lying).1,
              huge_populated (ground_of before) start bytes task cpu memory,
            ),
          ) =
          both-fed d.0 lying fed ∙ with-ok (ground_of before) start bytes task cpu memory
          (small d.0 lying) d.2 in
          let all = does-by lacking (Ok tt) before after d.0 (touch_done d.0 lying) (
            Ok tt,
            (
              (small d.0 lying).1,
              (huge_populated (ground_of before) start bytes task cpu memory).pages,
            ),
          ) (touch-is d.0 lying ∙ ap without_told is) d.1 touch.pages refl
          (λ odd. absurd (both_ways (is_starved d.0) fed odd)) in
          (d.0, all.0, all.1, all.2, all.3);
      core = core;
      unchanged = tt;
    };
    told = λ lying lies.
        let is = arrived lying lies in
        rw some (record {
          placed = omega (arith, placed, is.placed, touch.arrived_is.placed);
          exhausted = omega (arith, exhausted, is.exhausted, touch.arrived_is.exhausted);
          on = λ node near. omega (
            arith,
            on node near,
            is.on node near,
            touch.arrived_is.on node near,
          );
        });
  }
    where
      ok-lacks : Ok tt ≡ lacking {A = Unit {0}} → ⊥
      ok-lacks is = cc

  -- memory lacked for those of 2 MiB
  pub touched-starved : Touches start bytes task cpu before (Err cause.NoMemory) before
  touched-starved = record {
    does = record {
      does = λ lying lies.
          let all = does-by lacking lacking before before Starved (touch_done Starved lying)
          (lacking, (lying, huge_in before)) (touch-is Starved lying) lies refl refl
          (λ on. (refl, refl, refl)) in
          (Starved, all.0, all.1, all.2, all.3);
      core = refl;
      unchanged = refl;
    };
    told = tt;
  }

  -- those of 4 KiB were refused
  pub touched-refused : (after : PagesState) (why : PlacedRefusal) → after.core ≡ before.core
      → after.state ≡ before.state → after.huge ≡ before.huge
      → DoesAs before.state (Err why) after.state lacking (λ lack at. small lack at)
      → Touches start bytes task cpu before (Err why) after
  touched-refused after why core state huge does = record {
    does = record {
      does = λ lying lies.
          let d = does lying lies in
          let all : Came after why d.0 lying = elim (cases_Bool (is_starved d.0)) [
            | inl starved ↦ does-by lacking (Err why) before after d.0 (touch_done d.0 lying)
                (lacking, (lying, huge_in before))
                (touch-is d.0 lying ∙ ap without_told (both-starved d.0 lying starved))
                (subst (λ (s : PageState). LiesAs s lying) (sym state) lies)
                (ap places_of huge) (sym (d.3 starved).1)
                (λ on. (state, huge, (d.3 on).1))
            | inr fed ↦ does-by lacking (Err why) before after d.0 (touch_done d.0 lying)
                (Err why, ((small d.0 lying).1, huge_in before))
                (touch-is d.0 lying ∙ ap without_told (both-fed d.0 lying fed
                ∙ with-err (ground_of before) start bytes task cpu memory why
                (small d.0 lying) d.2)) d.1 (ap places_of huge) refl
                (λ on. (state, huge, (d.3 on).1))
          ] in
          (d.0, all.0, all.1, all.2, all.3);
      core = core;
      unchanged = λ i. record { core = core i; state = state i; huge = huge i };
    };
    told = tt;
  }

-- by the space and the kept frames as they were read
module _ (start bytes task cpu : ℕ) (before : PagesState) (space : SpaceState) (kept : Kept)
    (same : space ≡ before.core.space) (none : kept ≡ []) where
  pub small-so : (after : PageState) (answer : Result (Unit {0}) PlacedRefusal)
      → DoesAs before.state answer after lacking (λ lack at. small_populated lack
      (ground_in space kept) start bytes task cpu (alone (huge_in before)) at)
      → DoesAs before.state answer after lacking (λ lack at. small_populated lack
      (ground_of before) start bytes task cpu (alone (huge_in before)) at)
  small-so after answer does = subst (λ (s : SpaceState). DoesAs before.state answer after lacking
      (λ lack at. small_populated lack (ground_in s []) start bytes task cpu
      (alone (huge_in before)) at)) same
      (subst (λ (k : Kept). DoesAs before.state answer after lacking (λ lack at.
      small_populated lack (ground_in space k) start bytes task cpu (alone (huge_in before)) at))
      none does)

  pub touch-so : (after : HugePlaced) (came : HugeArrived)
      → IsTouch (touch_walk (ground_in space []) start bytes task cpu (alone (huge_in before)))
      after came
      → IsTouch (touch_walk (ground_of before) start bytes task cpu (alone (huge_in before)))
      after came
  touch-so after came touch = subst (λ (s : SpaceState). IsTouch (touch_walk (ground_in s []) start
      bytes task cpu (alone (huge_in before))) after came) same touch

-- what is told is few
pub own-few : (start bytes task cpu : ℕ) (before : PagesState) (after : PageState) (own : Arrived)
    → DoesAs before.state (Ok tt) after lacking (λ lack at. small_populated lack
    (ground_of before) start bytes task cpu (alone (huge_in before)) at)
    → ((lying : Lying) → LiesAs after lying → ArrivedAs own lying.arrived)
    → (own.placed ≤ 34359738368) × (own.exhausted ≤ 34359738368)
    × ((node : ℕ) → node < 256 → slice_index own.on node ≤ 34359738368)
own-few start bytes task cpu before after own does arrived =
    let at = lying_in before.state in
    let d = does at (lies-so before.state) in
    let few = small-few start bytes task cpu before d.0 at d.2 in
    let is = arrived (small_populated d.0 (ground_of before) start bytes task cpu
    (alone (huge_in before)) at).1 d.1 in (
      omega (arith, is.placed, few.0),
      omega (arith, is.exhausted, few.1),
      λ node near. omega (arith, is.on node near, few.2 node),
    )

pub came-few : (start bytes task cpu : ℕ) (before : PagesState) (after : HugePlaced)
    (came : HugeArrived)
    → IsTouch (touch_walk (ground_of before) start bytes task cpu (alone (huge_in before)))
    after came
    → (came.placed ≤ 67108864) × (came.exhausted ≤ 67108864)
    × ((node : ℕ) → node < 256 → slice_index came.on node ≤ 67108864)
came-few start bytes task cpu before after came touch =
    let few = touch-few (ground_of before) start bytes task cpu (alone (huge_in before)) in (
      omega (arith, touch.arrived_is.placed, few.placed),
      omega (arith, touch.arrived_is.exhausted, few.exhausted),
      λ node near. omega (arith, touch.arrived_is.on node near, few.on node),
    )
