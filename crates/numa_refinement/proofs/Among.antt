-- The turns of a seat in an interleaving, since its worker's Begin or Seek.
use Rattle.std.proofs.Common.{◌≡◌, ℕ, ◌<◌, ◌≤◌, Bool, true, Some, is_ok, List, [], ◌∷◌, ◌++◌}
use Rattle.std.proofs.Common.{length, refl, sym, ap, subst, ◌∙◌, arith, eq-eqb, ne_eqb}
use Rattle.std.proofs.Common.{if◌then◌else◌}
use Rattle.std.specs.Prelude.{slice_index}
use native.Mathlib.Decide.{ℕ_discrete}
use Rattle.numa_requests.specs.declared.command.Command.{Command}
use Rattle.numa_requests.specs.declared.request.Request.{Request}
use Rattle.numa_core.specs.World.{Setup, Worker, World}
use Rattle.numa_core.specs.Steps.{answer_of, effect_of}
use Rattle.numa_core.specs.Executions.{worker_of, world_of}
use Rattle.numa_requests.specs.declared.event.Event.TheVariants.{Accept, Publish, Begin, Seek}
use Rattle.numa_requests.specs.declared.event.Event.TheVariants.{Look, Try, Give}
use Rattle.numa_pool.specs.Seats.{SeatView}
use Rattle.numa_pool.specs.declared.view.Entry.{Entry}
use Rattle.numa_pool.specs.declared.view.Entry.TheVariants.{Load, Won, Lost, Gave}
use Rattle.numa_refinement.specs.FrameSearches.{TakesTurns, Turn, steps_of, world_left}
use Rattle.numa_refinement.specs.WalkSteps.{MaySeek, event_of}
use Rattle.numa_refinement.specs.Moves.{Makes, PoolState}
use Rattle.numa_refinement.specs.Plays.{Deed, makes_step, splits, has_event, Done, Fits, IsPlay}
use Rattle.numa_refinement.specs.Plays.{pools_of, execution_of, since_of}
use Rattle.numa_refinement.proofs.Playing.{plays}
use Rattle.numa_refinement.specs.Faults.{Falls, IsReady, LeavesLast, begun_world}
use Rattle.numa_refinement.specs.Interleaved.{HaveNoBegin, IsNoBegin, begins, seeks, turns_in}
use Rattle.numa_refinement.specs.Interleaved.{with_turn}
use Rattle.numa_refinement.specs.Migrations.{FallsOn, sought_world}
use Rattle.numa_refinement.proofs.Migrating.{may-seek}
use Rattle.numa_refinement.proofs.Beside.{desk, workers}

pub its-worker : (id : ℕ) (e : Entry) → worker_of (event_of id e) ≡ Some id
its-worker id (Load n word x) = refl
its-worker id (Won f) = refl
its-worker id (Lost f) = refl
its-worker id (Gave f) = refl

module _ (s : Setup) (w : ℕ) (few : (n : ℕ) → slice_index s.machine.frames n ≤ 4096)
    (some_worker : 0 < s.workers) (first : PoolState) (begun : World) where
  -- after these deeds: the turns are seat w's since the Begin, and nobody else touched its worker
  record Stand (done : List Done) (turns : List Turn) : Type 0 where
    taken : TakesTurns s w begun turns
    last : LeavesLast s w begun turns
    worker : (world_of s (execution_of s done)).worker w ≡ (world_left s w begun turns).worker w
    since : since_of s done w ≡ steps_of turns

  module _ (rest : List Done) (turns : List Turn) (play : IsPlay s first rest)
      (h : Stand rest turns) where
    abbrev world : World
    world = world_of s (execution_of s rest)

    one-more : (deed : Deed) (pools : PoolState)
        → Fits s world (since_of s rest) deed (pools_of s first rest) pools → IsNoBegin w deed
        → Stand (record { deed = deed; pools = pools } ∷ rest)
        (with_turn w deed world (pools_of s first rest) pools turns)
    one-more (splits id) pools fits no_begin =
        record { taken = h.taken; last = h.last; worker = h.worker; since = h.since }
    one-more (has_event version (Accept command)) pools fits no_begin = record {
      taken = h.taken;
      last = h.last;
      worker = desk s world version (Accept command) (answer_of s world version (Accept command)) w
          refl ∙ h.worker;
      since = h.since;
    }
    one-more (has_event version Publish) pools fits no_begin = record {
      taken = h.taken;
      last = h.last;
      worker = desk s world version Publish (answer_of s world version Publish) w refl ∙ h.worker;
      since = h.since;
    }
    one-more (has_event version (Begin v request)) pools fits no_begin = record {
      taken = h.taken;
      last = h.last;
      worker = workers s world version (Begin v request)
          (answer_of s world version (Begin v request)) v w refl no_begin ∙ h.worker;
      since = ap (λ (b : Bool). if b then [] else since_of s rest w) (ne_eqb v w no_begin)
          ∙ h.since;
    }
    one-more (has_event version (Seek v node)) pools fits no_begin = record {
      taken = h.taken;
      last = h.last;
      worker = workers s world version (Seek v node)
          (answer_of s world version (Seek v node)) v w refl no_begin ∙ h.worker;
      since = ap (λ (b : Bool). if b then [] else since_of s rest w) (ne_eqb v w no_begin)
          ∙ h.since;
    }
    one-more (has_event version (Look v word)) pools fits no_begin = absurd fits.0
    one-more (has_event version (Try v frame)) pools fits no_begin = absurd fits.0
    one-more (has_event version (Give v frame)) pools fits no_begin = absurd fits.0
    one-more (makes_step id e) pools fits no_begin = by (ℕ_discrete id w)
      where
        turn : Turn
        turn = record { step = e; world = world; before = pools_of s first rest; after = pools }

        now : List Done
        now = record { deed = makes_step id e; pools = pools } ∷ rest

        answered : is_ok (answer_of s world 0 (event_of id e)) ≡ true
        answered = (plays s few some_worker first now (play, fits)).granted.0

        by : Dec (id ≡ w)
            → Stand now (with_turn w (makes_step id e) world (pools_of s first rest) pools turns)
        by (yes same) = subst (λ (b : Bool). Stand now (if b then turn ∷ turns else turns))
            (sym (eq-eqb id w same)) (record {
              taken = (
                h.taken,
                (plays s few some_worker first rest play).tied,
                subst (λ i. Makes e i (pools_of s first rest) pools) same fits.1,
                ap (λ (k : Worker). k.frame_search) h.worker,
              );
              last = (h.last, ap (λ (k : Worker). k.last) h.worker);
              worker =
                  ap (λ (b : Bool).
                  (if b then effect_of s world 0 (event_of id e) else world).worker w)
                  answered ∙ ap (λ i. (effect_of s world 0 (event_of i e)).worker w) same;
              since = ap (λ (b : Bool). if b then e ∷ since_of s rest id else since_of s rest w)
                  (eq-eqb id w same)
                  ∙ ap (λ i. e ∷ since_of s rest i) same ∙ ap (λ (es : List Entry). e ∷ es) h.since;
            })
        by (no apart) = subst (λ (b : Bool). Stand now (if b then turn ∷ turns else turns))
            (sym (ne_eqb id w apart)) (record {
              taken = h.taken;
              last = h.last;
              worker = workers s world 0 (event_of id e) (answer_of s world 0 (event_of id e)) id w
                  (its-worker id e) apart ∙ h.worker;
              since = ap (λ (b : Bool). if b then e ∷ since_of s rest id else since_of s rest w)
                  (ne_eqb id w apart) ∙ h.since;
            })

  -- from the Begin on
  stand : (base later : List Done) → Stand base [] → IsPlay s first (later ++ base)
      → HaveNoBegin w later → Stand (later ++ base) (turns_in s w first later base)
  stand base [] h play none = h
  stand base (d ∷ later) h play none = one-more (later ++ base) (turns_in s w first later base)
      play.0 (stand base later h play.0 none.0) d.deed d.pools play.1 none.1

module _ (s : Setup) (w : ℕ) (few : (n : ℕ) → slice_index s.machine.frames n ≤ 4096)
    (first pools : PoolState) (done later : List Done) (history : List Command) (request : Request)
    (play : IsPlay s first (later ++ begins w (length history) request pools ∷ done))
    (none : HaveNoBegin w later)
    (ready : IsReady s w history (world_of s (execution_of s done))) where
  abbrev base : List Done
  base = begins w (length history) request pools ∷ done

  abbrev start : World
  start = world_of s (execution_of s done)

  some : 0 < s.workers
  some = let inside : w < s.workers = ready.worker in omega arith

  base-play : (later : List Done) → IsPlay s first (later ++ base) → IsPlay s first base
  base-play [] play = play
  base-play (d ∷ later) play = base-play later play.0

  begun-first : Stand s w few some first (begun_world s w history request start) base []
  begun-first =
      let answered : is_ok (answer_of s start (length history) (Begin w request)) ≡ true =
      (plays s few some first base (base-play later play)).granted.0 in
      record {
        taken = tt;
        last = tt;
        worker =
            ap (λ (b : Bool).
            (if b then effect_of s start (length history) (Begin w request) else start).worker w)
            answered;
        since = ap (λ (b : Bool). if b then [] else since_of s done w) (eq-eqb w w refl);
      }

  stands : Stand s w few some first (begun_world s w history request start) (later ++ base)
      (turns_in s w first later base)
  stands = stand s w few some first (begun_world s w history request start) base later begun-first
      play none

  pub falls : (before after : SeatView) → after.log ≡ since_of s (later ++ base) w ++ before.log
      → Falls s w history request start before after (turns_in s w first later base)
  falls before after gained =
      record {
        ready = ready;
        gained = gained ∙ ap (λ (es : List Entry). es ++ before.log)
            stands.since;
        taken = stands.taken;
      }

  pub leaves-last : LeavesLast s w (begun_world s w history request start)
      (turns_in s w first later base)
  leaves-last = stands.last

-- the same since a Seek
module _ (s : Setup) (w : ℕ) (few : (n : ℕ) → slice_index s.machine.frames n ≤ 4096)
    (first pools : PoolState) (done later : List Done) (version node : ℕ)
    (play : IsPlay s first (later ++ seeks w version node pools ∷ done))
    (none : HaveNoBegin w later) where
  abbrev seek_base : List Done
  seek_base = seeks w version node pools ∷ done

  abbrev seek_start : World
  seek_start = world_of s (execution_of s done)

  seek-play : (later : List Done) → IsPlay s first (later ++ seek_base) → IsPlay s first seek_base
  seek-play [] play = play
  seek-play (d ∷ later) play = seek-play later play.0

  may : MaySeek s seek_start w version node
  may = let step = (seek-play later play).1.2 in
      may-seek s w version node seek_start step.0 step.1

  some-worker : 0 < s.workers
  some-worker = let inside : w < s.workers = may.there in omega arith

  sought-first : Stand s w few some-worker first (sought_world s w version node seek_start)
      seek_base []
  sought-first =
      let answered : is_ok (answer_of s seek_start version (Seek w node)) ≡ true =
      (plays s few some-worker first seek_base (seek-play later play)).granted.0 in
      record {
        taken = tt;
        last = tt;
        worker =
            ap (λ (b : Bool).
            (if b then effect_of s seek_start version (Seek w node) else seek_start).worker w)
            answered;
        since = ap (λ (b : Bool). if b then [] else since_of s done w) (eq-eqb w w refl);
      }

  pub falls-on : (before after : SeatView)
      → after.log ≡ since_of s (later ++ seek_base) w ++ before.log
      → FallsOn s w version node seek_start before after (turns_in s w first later seek_base)
  falls-on before after gained =
      let all = stand s w few some-worker first (sought_world s w version node seek_start)
      seek_base later sought-first play none in
      record {
        may = may;
        gained = gained ∙ ap (λ (es : List Entry). es ++ before.log) all.since;
        taken = all.taken;
      }
