-- CoreSteps of the core's world, and what a seat's steps are there.
use Rattle.std.specs.Prelude.{◌≡◌, ℕ, ◌*◌, ◌<◌, ◌≤◌, ◌==◌, true, List, slice_index}
use Rattle.std.specs.Prelude.{Option, Some, None, Ok, if◌then◌else◌}
use Rattle.numa_core.specs.World.{Setup, World, FrameSearch, frame_search_of, is_published, last_of}
use Rattle.numa_core.specs.World.{list_at}
use Rattle.numa_core.specs.Executions.{CoreStep}
use Rattle.numa_core.specs.Steps.{MayTake, answer_of}
use Rattle.numa_requests.specs.declared.event.Event.{Event}
use Rattle.numa_requests.specs.declared.event.Event.TheVariants.{Look, Try, Give}
use Rattle.numa_requests.specs.declared.event.CoreReply.{CoreReply}
use Rattle.numa_requests.specs.declared.request.Request.{Request}
use Rattle.numa_pool.specs.declared.view.Entry.{Entry}
use Rattle.numa_pool.specs.declared.view.Entry.TheVariants.{Load, Won, Lost, Gave}
use Rattle.numa_pool.specs.Walk.{IsCurrent, IsNext}
use Rattle.numa_refinement.specs.Moves.{PoolState, Makes}
use Rattle.numa_refinement.specs.Tie.{IsTied, HaveMet}

-- in this world the event is a legal step that is not refused, and this is its reply
abbrev pub IsCoreStep : Setup → World → ℕ → Event → CoreReply → Type 0
IsCoreStep s world version event reply =
    MayTake world version event × (answer_of s world version event ≡ Ok reply)

-- the step of an event that is answered so; the version counts for a Begin or a Seek alone
abbrev pub told : ℕ → Event → CoreReply → CoreStep
told version event reply = record { event = event; version = version; answer = Ok reply }

module _ (s : Setup) (world : World) where
  -- worker id is there and idle; the faulting node is there; and the version, which is published
  -- and not older than the worker's last one, has this list for the request
  pub record MayBegin (id version : ℕ) (request : Request) (nodes : List ℕ) : Type 0 where
    pub there : id < s.workers
    pub idle : frame_search_of world id ≡ None
    pub cpu : request.cpu < s.machine.nodes
    pub published : is_published world version ≡ true
    pub not_older : last_of world id ≤ version
    pub listed : list_at s.machine world.history version request ≡ Some nodes

  -- worker id is there and idle; the node is there, and has frames; and the version is published
  -- and not older than the worker's last one
  pub record MaySeek (id version node : ℕ) : Type 0 where
    pub there : id < s.workers
    pub idle : frame_search_of world id ≡ None
    pub some : 0 < slice_index s.machine.frames node
    pub published : is_published world version ≡ true
    pub not_older : last_of world id ≤ version

-- what a step of a seat is to the core: its worker looks, tries or gives
abbrev pub event_of : ℕ → Entry → Event
event_of id (Load n w x) = Look id w
event_of id (Won f) = Try id f
event_of id (Lost f) = Try id f
event_of id (Gave f) = Give id f

-- the step may come next in a walk of these nodes
abbrev pub MayCome : List ℕ → List ℕ → List Entry → Entry → Type 0
MayCome frames ns es (Load n w x) = IsCurrent frames es ns n × (64 * w < slice_index frames n)
MayCome frames ns es (Won f) = IsNext frames es ns f
MayCome frames ns es (Lost f) = IsNext frames es ns f
MayCome frames ns es (Gave f) = ⊥

module _ (s : Setup) (world : World) (since : ℕ → List Entry) where
  -- In a world that is tied to the pools the worker of seat id is searching, and the seat makes a
  -- step that may come next in its walk
  pub record WalksOn (id : ℕ) (frame_search : FrameSearch) (e : Entry) (old new : PoolState) :
      Type 0 where
    pub tied : IsTied s world old
    pub met : HaveMet world since
    pub busy : frame_search_of world id ≡ Some frame_search
    pub makes : Makes e id old new
    pub next : MayCome s.machine.frames frame_search.nodes (since id) e

-- the owner, once what one worker owned is another's
abbrev pub passed_on : ℕ → ℕ → Option ℕ → Option ℕ
passed_on from to None = None
passed_on from to (Some id) = if id == from then Some to else Some id

-- the world, once what one worker owned is another's
abbrev pub world_after_handover : World → ℕ → ℕ → World
world_after_handover world from to = record {
  history = world.history;
  published = world.published;
  worker = world.worker;
  owner = λ n k. passed_on from to (world.owner n k);
}
