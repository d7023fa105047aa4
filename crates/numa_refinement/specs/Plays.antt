-- All that seats and workers do, in one order.
use Rattle.std.specs.Prelude.{◌≡◌, ℕ, ◌<◌, true, List, [], ◌∷◌, length, Some, None, is_ok}
use Rattle.numa_core.specs.World.{Setup, World, FrameSearch, frame_search_of}
use Rattle.numa_core.specs.Steps.{answer_of, put}
use Rattle.numa_core.specs.Executions.{CoreStep, world_of}
use Rattle.numa_requests.specs.declared.event.Event.{Event}
use Rattle.numa_requests.specs.declared.event.Event.TheVariants.{Accept, Publish, Begin, Seek}
use Rattle.numa_requests.specs.declared.event.Event.TheVariants.{Look, Try, Give}
use Rattle.numa_requests.specs.declared.event.CoreReply.{CoreReply}
use Rattle.numa_pool.specs.declared.view.Entry.{Entry}
use Rattle.numa_pool.specs.declared.view.Entry.TheVariants.{Load, Won, Lost, Gave}
use Rattle.numa_refinement.specs.WalkSteps.{IsCoreStep, MayCome, event_of}
use Rattle.numa_refinement.specs.Moves.{PoolState, IsOpening, Makes, Splits}
use Rattle.numa_refinement.specs.Tie.{noted}

-- What is done: a seat makes a step, a seat splits, or the core has an event that takes no step of
-- the pools, a command, a publication, or a Begin or a Seek of some version
pub data Deed : Type 0 where
  makes_step : ℕ → Entry → Deed
  splits : ℕ → Deed
  has_event : ℕ → Event → Deed

-- a deed, and the pools after it
pub record Done : Type 0 where
  pub deed : Deed
  pub pools : PoolState

-- a seat made this step, which left the pools so
abbrev pub by_seat : ℕ → Entry → PoolState → Done
by_seat id e pools = record { deed = makes_step id e; pools = pools }

-- the event takes no step of the pools
abbrev pub IsApart : Event → Type 0
IsApart (Accept command) = Unit {0}
IsApart Publish = Unit {0}
IsApart (Begin w request) = Unit {0}
IsApart (Seek w node) = Unit {0}
IsApart (Look w word) = ⊥
IsApart (Try w frame) = ⊥
IsApart (Give w frame) = ⊥

-- a walk starts anew at a Begin or a Seek
abbrev pub since_event : Event → (ℕ → List Entry) → ℕ → List Entry
since_event (Begin w request) since = put since w []
since_event (Seek w node) since = put since w []
since_event (Accept command) since = since
since_event Publish since = since
since_event (Look w word) since = since
since_event (Try w frame) since = since
since_event (Give w frame) since = since

-- each seat's steps since its worker's Begin, after a deed
abbrev pub since_deed : Deed → (ℕ → List Entry) → ℕ → List Entry
since_deed (makes_step id e) since = noted since id e
since_deed (splits id) since = since
since_deed (has_event version event) since = since_event event since

module _ (s : Setup) where
  -- worker id is searching, and the step may come next in its walk
  abbrev pub IsNextOf : World → (ℕ → List Entry) → ℕ → Entry → Type 0
  IsNextOf world since id e =
      (frame_search : FrameSearch) × (frame_search_of world id ≡ Some frame_search)
      × MayCome s.machine.frames frame_search.nodes (since id) e

  -- a load or a try comes next in the walk of a worker that is searching; a return is by one that
  -- is idle
  abbrev pub MayStep : World → (ℕ → List Entry) → ℕ → Entry → Type 0
  MayStep world since id (Load n w x) = IsNextOf world since id (Load n w x)
  MayStep world since id (Won f) = IsNextOf world since id (Won f)
  MayStep world since id (Lost f) = IsNextOf world since id (Lost f)
  MayStep world since id (Gave f) = frame_search_of world id ≡ None

  -- the deed fits this world, the steps so far, and the pools before and after it
  abbrev pub Fits : World → (ℕ → List Entry) → Deed → PoolState → PoolState → Type 0
  Fits world since (makes_step id e) old new = MayStep world since id e × Makes e id old new
  Fits world since (splits id) old new = Splits id old new × (length old.views < s.workers)
  Fits world since (has_event version event) old new =
      IsApart event × (new ≡ old) × ((reply : CoreReply) × IsCoreStep s world version event reply)

  -- the execution with one step more, of this event
  abbrev pub with_event : ℕ → Event → List CoreStep → List CoreStep
  with_event version event past = record {
    event = event;
    version = version;
    answer = answer_of s (world_of s past) version event;
  } ∷ past

  abbrev pub with_deed : Deed → List CoreStep → List CoreStep
  with_deed (makes_step id e) past = with_event 0 (event_of id e) past
  with_deed (splits id) past = past
  with_deed (has_event version event) past = with_event version event past

  -- the execution of the core that the deeds are, the newest first in both
  abbrev pub execution_of : List Done → List CoreStep
  execution_of [] = []
  execution_of (d ∷ done) = with_deed d.deed (execution_of done)

  -- each seat's steps since its worker's Begin, after these deeds
  abbrev pub since_of : List Done → ℕ → List Entry
  since_of [] = λ id. []
  since_of (d ∷ done) = since_deed d.deed (since_of done)

  module _ (first : PoolState) where
    abbrev pub pools_of : List Done → PoolState
    pools_of [] = first
    pools_of (d ∷ done) = d.pools

    -- each deed fits what came before
    abbrev pub IsPlay : List Done → Type 0
    IsPlay [] = IsOpening s.machine.frames first
    IsPlay (d ∷ done) =
        IsPlay done
        × Fits (world_of s (execution_of done)) (since_of done) d.deed (pools_of done) d.pools

-- no step of the execution is refused
abbrev pub NoneRefused : List CoreStep → Type 0
NoneRefused [] = Unit {0}
NoneRefused (m ∷ past) = (is_ok m.answer ≡ true) × NoneRefused past
