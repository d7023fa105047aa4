-- The steps of a fault, as they fall, are a frame search.
use Rattle.std.proofs.Common.{suc, ◌≡◌, ℕ, ◌<◌, ◌≤◌, Bool, Option, Some, None, List, [], ◌∷◌}
use Rattle.std.proofs.Common.{length, refl, sym, ap, subst, ◌∙◌, arith, if◌then◌else◌}
use Rattle.std.specs.Prelude.{slice_get, slice_index}
use native.Mathlib.Decide.{dec_le}
use Rattle.std.proofs.lemmas.Bool.{eq-eqb}
use Rattle.std.proofs.lemmas.List.{append_cancel_right}
use Rattle.std.proofs.lemmas.Option.{get_or_from_slice_get, slice_get_within}
use Rattle.numa_machine.specs.declared.frame.Frame.{Frame}
use Rattle.numa_requests.specs.declared.command.Command.{Command}
use Rattle.numa_requests.specs.declared.placement.Placement.{Placement}
use Rattle.numa_requests.specs.declared.request.Request.{Request}
use Rattle.numa_core.specs.World.{Setup, FrameSearch, Worker, World, frame_search_of, last_of}
use Rattle.numa_core.specs.World.{owner_of}
use Rattle.numa_core.specs.Steps.{effect_of, with_owner, with_worker}
use Rattle.numa_requests.specs.declared.event.Event.TheVariants.{Try}
use Rattle.numa_requests.specs.declared.event.CoreReply.TheVariants.{Exhausted, Won as replied_won}
use Rattle.numa_fault.specs.Fault.{FindsNone, Places, Walks, list_of, refusal_of}
use Rattle.numa_pool.specs.Seats.{SeatView}
use Rattle.numa_pool.specs.Walk.{IsDistinct, IsWalk}
use Rattle.numa_pool.specs.declared.view.Entry.{Entry}
use Rattle.numa_pool.specs.declared.view.Entry.TheVariants.{Load, Won, Lost, Gave}
use Rattle.numa_refinement.specs.FrameSearches.{IsFrameSearch, IsPlaced, TakesTurns, Turn, steps_of}
use Rattle.numa_refinement.specs.FrameSearches.{world_left}
use Rattle.numa_refinement.specs.WalkSteps.{MayBegin, event_of}
use Rattle.numa_refinement.specs.Moves.{Makes, PoolState}
use Rattle.numa_refinement.specs.Tie.{IsTied}
use Rattle.numa_refinement.proofs.Allowed.{won-effect}
use Rattle.numa_refinement.proofs.FrameSearching.{ends}
use Rattle.numa_refinement.proofs.Keeping.{free-of, there-of}
use Rattle.numa_refinement.specs.Faults.{Falls, IsReady, LeavesLast, begun_world, last_world}
use Rattle.numa_refinement.specs.LegalSteps.{IsPublishedIn}
use Rattle.numa_refinement.proofs.Begins.{has-list}

-- a node stands at one place of a list without repeats
one-place : (ns : List ℕ) (i j n : ℕ) → IsDistinct ns → slice_get ns i ≡ Some n
    → slice_get ns j ≡ Some n → i ≡ j
one-place ns i j n distinct e d = by (dec_le (suc i) j) (dec_le (suc j) i)
  where
    both : slice_index ns i ≡ slice_index ns j
    both = get_or_from_slice_get ns i n 0 e ∙ sym (get_or_from_slice_get ns j n 0 d)

    by : Dec (suc i ≤ j) → Dec (suc j ≤ i) → i ≡ j
    by (yes l) m = absurd (distinct i j 0 (omega arith) (slice_get_within ns j n d) both)
    by (no l) (yes m) = absurd (distinct j i 0 (omega arith) (slice_get_within ns i n e) (sym both))
    by (no l) (no m) = omega arith

-- two placements of one frame at its place in one list, for one request at one version
pub one-placement : (version : ℕ) (request : Request) (nodes : List ℕ) (frame : Frame)
    (p q : Placement)
    → IsDistinct nodes
    → IsPlaced version request nodes frame p → IsPlaced version request nodes frame q → p ≡ q
one-placement version request nodes frame p q distinct a b = λ i. record {
  version = (a.version_is ∙ sym b.version_is) i;
  task = (a.task ∙ sym b.task) i;
  page = (a.page ∙ sym b.page) i;
  node = (a.node ∙ sym b.node) i;
  frame = (a.frame_is ∙ sym b.frame_is) i;
  rank = one-place nodes p.rank q.rank frame.node distinct a.rank b.rank i;
}

-- ---- what a worker was told last

pub own-last : (world : World) (w last : ℕ) (o : Option FrameSearch)
    → last_of (with_worker world w last o) w ≡ last
own-last world w last o =
    ap (λ (b : Bool).
    (if b then (record { last = last; frame_search = o }) else world.worker w).last)
    (eq-eqb w w refl)

-- no step of a seat tells its worker a version
pub step-last : (s : Setup) (w : ℕ) (world : World) (e : Entry)
    → last_of (effect_of s world 0 (event_of w e)) w ≡ last_of world w
step-last s w world (Load n word x) = own-last world w (last_of world w) _
step-last s w world (Gave f) = refl
step-last s w world (Won f) = go (owner_of world f) refl
  where
    go : (o : Option ℕ) → owner_of world f ≡ o → last_of (effect_of s world 0 (Try w f)) w
        ≡ last_of world w
    go (Some u) is = rw is (own-last world w (last_of world w) _)
    go None is = rw is (own-last (with_owner world f (Some w)) w (last_of world w) None)
step-last s w world (Lost f) = go (owner_of world f) refl
  where
    go : (o : Option ℕ) → owner_of world f ≡ o → last_of (effect_of s world 0 (Try w f)) w
        ≡ last_of world w
    go (Some u) is = rw is (own-last world w (last_of world w) _)
    go None is = rw is (own-last (with_owner world f (Some w)) w (last_of world w) None)

turns-last : (s : Setup) (w : ℕ) (begun : World) (turns : List Turn) → LeavesLast s w begun turns
    → last_of (world_left s w begun turns) w ≡ last_of begun w
turns-last s w begun [] leaves = refl
turns-last s w begun (t ∷ turns) leaves = step-last s w t.world t.step ∙ leaves.1
    ∙ turns-last s w begun turns leaves.0

-- a try that won makes the frame the worker's
won-owner : (s : Setup) (w : ℕ) (f : Frame) (world : World) (old new : PoolState)
    → f.number < slice_index s.machine.frames f.node → IsTied s world old → Makes (Won f) w old new
    → owner_of (effect_of s world 0 (Try w f)) f ≡ Some w
won-owner s w f world old new low tied makes =
    let there = there-of s world old new w tied makes.1.before makes.1.shown in
    let free = free-of s world old new w tied f low makes.0 in
    ap (λ v. owner_of v f) (won-effect s world 0 w there f free)
    ∙ rw (eq-eqb f.node f.node refl, eq-eqb f.number f.number refl) refl

-- it is the newest of the turns of a walk that won it
pub walk-owner : (s : Setup) (w : ℕ) (nodes : List ℕ) (f : Frame) (begun : World)
    (turns : List Turn)
    → TakesTurns s w begun turns → IsWalk s.machine.frames nodes (Some f) (steps_of turns)
    → owner_of (world_left s w begun turns) f ≡ Some w
walk-owner s w nodes f begun [] taken walk = absurd walk
walk-owner s w nodes f begun (t ∷ turns) taken walk =
    subst (λ (e : Entry). owner_of (effect_of s t.world 0 (event_of w e)) f ≡ Some w) (sym walk.0)
    (won-owner s w f t.world t.before t.after walk.2.1 taken.1
    (subst (λ (e : Entry). Makes e w t.before t.after) walk.0 taken.2))

-- ---- a fault

module _ (s : Setup) (w : ℕ) (history : List Command) (request : Request) (first : World)
    (before after : SeatView) (turns : List Turn)
    (falls : Falls s w history request first before after turns) where
  abbrev nodes : List ℕ
  nodes = list_of s.machine history request

  -- the turns are the walk
  walked : (found : Option Frame) → Walks s.machine.frames nodes found before after
      → IsWalk s.machine.frames nodes found (steps_of turns)
  walked found walks =
      let same : walks.steps.0 ≡ steps_of turns = append_cancel_right walks.steps.0 (steps_of turns)
      before.log (sym walks.steps.1 ∙ falls.gained) in
      subst (λ (es : List Entry). IsWalk s.machine.frames nodes found es) same walks.steps.2

  begins : refusal_of s.machine history request ≡ None → MayBegin s first w (length history) request
      nodes
  begins stands = has-list s w history request first falls.ready stands

  pub exhausts : (version : ℕ) → FindsNone s.machine.frames s.machine history request version before
      after → IsFrameSearch s w first version request (Exhausted version) turns
  exhausts version found =
      let end = ends s w (length history) request nodes first (begins found.stands) None turns
      falls.taken (walked None found.walks) in
      subst (λ v. IsFrameSearch s w first v request (Exhausted v) turns) (sym found.version_is)
      (subst (λ reply. IsFrameSearch s w first (length history) request reply turns) end.0.1
      end.0.2)

  pub wins : (p : Placement) → Places s.machine.frames s.machine history request p before after
      → IsFrameSearch s w first p.version request (replied_won p) turns
  wins p places =
      let end = ends s w (length history) request nodes first (begins places.stands) (Some p.frame)
      turns falls.taken (walked (Some p.frame) places.walks) in
      let q = end.0.1.0 in
      let own : IsPlaced (length history) request nodes p.frame p = record {
        version_is = places.version;
        task = places.task;
        page = places.page;
        frame_is = refl;
        node = places.node;
        rank = places.rank ∙ ap Some places.node;
      } in
      let same : q ≡ p = one-placement (length history) request nodes p.frame q p
      places.walks.distinct end.0.1.2 own in
      subst (λ v. IsFrameSearch s w first v request (replied_won p) turns) (sym places.version)
      (subst (λ reply. IsFrameSearch s w first (length history) request reply turns)
      (end.0.1.1 ∙ ap replied_won same) end.0.2)

  pub owns : (p : Placement) → Places s.machine.frames s.machine history request p before after
      → owner_of (last_world s w history request first turns) p.frame ≡ Some w
  owns p places = walk-owner s w nodes p.frame (begun_world s w history request first) turns
      falls.taken (walked (Some p.frame) places.walks)

  ready-again : (longer : List Command) (next : World)
      → frame_search_of (last_world s w history request first turns) w ≡ None
      → LeavesLast s w (begun_world s w history request first) turns
      → next.worker w ≡ (last_world s w history request first turns).worker w
      → IsPublishedIn next longer → length history ≤ length longer → IsReady s w longer next
  ready-again longer next idle leaves same known more = record {
    worker = falls.ready.worker;
    known = known;
    idle = ap (λ (k : Worker). k.frame_search) same ∙ idle;
    last =
        let last : last_of next w ≡ length history = ap (λ (k : Worker). k.last) same
        ∙ turns-last s w (begun_world s w history request first) turns leaves
        ∙ own-last first w (length history) _ in
        omega arith;
  }

  pub again-exhausted : (version : ℕ) → FindsNone s.machine.frames s.machine history request version
      before after → (longer : List Command) (next : World)
      → LeavesLast s w (begun_world s w history request first) turns
      → next.worker w ≡ (last_world s w history request first turns).worker w
      → IsPublishedIn next longer → length history ≤ length longer → IsReady s w longer next
  again-exhausted version found longer next =
      ready-again longer next (ends s w (length history) request nodes first (begins found.stands)
      None turns falls.taken (walked None found.walks)).1

  pub again-won : (p : Placement) → Places s.machine.frames s.machine history request p before after
      → (longer : List Command) (next : World)
      → LeavesLast s w (begun_world s w history request first) turns
      → next.worker w ≡ (last_world s w history request first turns).worker w
      → IsPublishedIn next longer → length history ≤ length longer → IsReady s w longer next
  again-won p places longer next =
      ready-again longer next (ends s w (length history) request nodes first (begins places.stands)
      (Some p.frame) turns falls.taken (walked (Some p.frame) places.walks)).1
