-- The steps of the world: which events are refused and in which order, what the others answer and
-- what they do.
use Rattle.std.specs.Prelude.{◌≡◌, ℕ, ◌+◌, ◌≤◌, ◌==◌, ◌⊎◌, Bool, true, false, not, Option}
use Rattle.std.specs.Prelude.{Some, None, Result, Ok, Err, is_ok, is_some, is_none, unwrap_or}
use Rattle.std.specs.Prelude.{List, [], ◌∷◌, length, nat_le, if◌then◌else◌}
use Rattle.std.specs.Option.{option_map_or}
use Rattle.numa_space.specs.Refusals.{refusal_of as command_refusal}
use Rattle.numa_space.specs.Steps.{MayNeedRoom}
use Rattle.numa_requests.specs.declared.refusal.Refusal.{Refusal}
use Rattle.numa_requests.specs.declared.refusal.Refusal.TheVariants.{NoMemory as NoRoom}
use Rattle.numa_machine.specs.Machine.{frames_of}
use Rattle.numa_machine.specs.declared.frame.Frame.{Frame}
use Rattle.numa_requests.specs.declared.placement.Placement.{Placement}
use Rattle.numa_requests.specs.declared.request.Request.{Request}
use Rattle.numa_requests.specs.declared.event.Event.{Event}
use Rattle.numa_requests.specs.declared.event.Event.TheVariants.{Accept, Publish, Begin, Seek}
use Rattle.numa_requests.specs.declared.event.Event.TheVariants.{Look, Try, Give}
use Rattle.numa_requests.specs.declared.event.CoreReply.{CoreReply}
use Rattle.numa_requests.specs.declared.event.CoreReply.TheVariants.{Accepted, Published, Still}
use Rattle.numa_requests.specs.declared.event.CoreReply.TheVariants.{Exhausted, Won, Found, Full}
use Rattle.numa_requests.specs.declared.event.CoreReply.TheVariants.{Given}
use Rattle.numa_requests.specs.declared.event.CoreRefusal.{CoreRefusal}
use Rattle.numa_requests.specs.declared.event.CoreRefusal.TheVariants.{Command as Because}
use Rattle.numa_requests.specs.declared.event.CoreRefusal.TheVariants.{NoSuchWorker, Busy, Idle}
use Rattle.numa_requests.specs.declared.event.CoreRefusal.TheVariants.{BadTry, NotOwned, BadCpu}
use Rattle.numa_requests.specs.declared.event.CoreRefusal.TheVariants.{Unmapped, NoSuchNode}
use Rattle.numa_requests.specs.declared.event.CoreRefusal.TheVariants.{NoMemory}
use Rattle.numa_core.specs.declared.acceptance.Acceptance.{Acceptance}
use Rattle.numa_core.specs.World.{Setup, FrameSearch, World, is_published, last_of, frame_search_of}
use Rattle.numa_core.specs.World.{owner_of, is_frame, list_at, current_rank, may_look}
use Rattle.numa_core.specs.World.{may_try, new_frame_search, frame_search_after_look}
use Rattle.numa_core.specs.World.{frame_search_past, seeking}

-- ---- which versions a worker may take

-- a Begin or a Seek takes any published version that isn't below the worker's last one; the other
-- events take none
abbrev pub MayTake : World → ℕ → Event → Type 0
MayTake world version (Begin w request) = (is_published world version ≡ true)
    × (last_of world w ≤ version)
MayTake world version (Seek w node) = (is_published world version ≡ true)
    × (last_of world w ≤ version)
MayTake world version (Accept command) = Unit {0}
MayTake world version Publish = Unit {0}
MayTake world version (Look w word) = Unit {0}
MayTake world version (Try w frame) = Unit {0}
MayTake world version (Give w frame) = Unit {0}

-- ---- refusals

-- the refusal of the first row whose condition holds
abbrev pub first_refusal : List (Bool × CoreRefusal) → Option CoreRefusal
first_refusal [] = None
first_refusal (row ∷ rows) = if row.0 then Some row.1 else first_refusal rows

abbrev pub because : Option Refusal → Option CoreRefusal
because None = None
because (Some refusal) = Some (Because refusal)

-- the worker owns the frame
abbrev pub owns : World → ℕ → Frame → Bool
owns world w frame = option_map_or (λ v. v == w) (owner_of world frame) false

-- ---- changes of the world

-- the function's value at w is x, and elsewhere it is as before
abbrev pub put : {X : Type 0} → (ℕ → X) → ℕ → X → ℕ → X
put f w x v = if w == v then x else f v

abbrev pub put_frame : {X : Type 0} → (ℕ → ℕ → X) → Frame → X → ℕ → ℕ → X
put_frame f frame x n k = if is_frame frame n k then x else f n k

abbrev pub with_worker : World → ℕ → ℕ → Option FrameSearch → World
with_worker world w last frame_search = record {
  history = world.history;
  published = world.published;
  worker = put world.worker w (record { last = last; frame_search = frame_search });
  owner = world.owner;
}

abbrev pub with_owner : World → Frame → Option ℕ → World
with_owner world frame o = record {
  history = world.history;
  published = world.published;
  worker = world.worker;
  owner = put_frame world.owner frame o;
}

-- what ends a frame search that wins no frame: for a page its list is exhausted, a node is full
abbrev pub over_by : FrameSearch → CoreReply
over_by frame_search =
    option_map_or (λ request. Exhausted frame_search.version) frame_search.request Full

module _ (s : Setup) where
  -- why the event is refused, if it is, other than for memory. The version is the one that a Begin
  -- or a Seek takes
  abbrev pub refusal_of : World → ℕ → Event → Option CoreRefusal
  refusal_of world version (Accept command) =
      because (command_refusal s.machine s.bounds world.history command)
  refusal_of world version Publish = None
  refusal_of world version (Begin w request) = first_refusal (
      (nat_le s.workers w, NoSuchWorker)
      ∷ (is_some (frame_search_of world w), Busy)
      ∷ (nat_le s.machine.nodes request.cpu, BadCpu)
      ∷ (is_none (list_at s.machine world.history version request), Unmapped version)
      ∷ [])
  refusal_of world version (Seek w node) = first_refusal (
      (nat_le s.workers w, NoSuchWorker)
      ∷ (is_some (frame_search_of world w), Busy)
      ∷ (frames_of s.machine node == 0, NoSuchNode)
      ∷ [])
  refusal_of world version (Look w word) = first_refusal (
      (nat_le s.workers w, NoSuchWorker)
      ∷ (is_none (frame_search_of world w), Idle)
      ∷ (
        not (option_map_or (λ frame_search. may_look s frame_search word) (frame_search_of world w)
            false),
        BadTry,
      )
      ∷ [])
  refusal_of world version (Try w frame) = first_refusal (
      (nat_le s.workers w, NoSuchWorker)
      ∷ (is_none (frame_search_of world w), Idle)
      ∷ (
        not (option_map_or (λ frame_search. may_try s frame_search frame) (frame_search_of world w)
            false),
        BadTry,
      )
      ∷ [])
  refusal_of world version (Give w frame) = first_refusal (
      (nat_le s.workers w, NoSuchWorker)
      ∷ (is_some (frame_search_of world w), Busy)
      ∷ (not (owns world w frame), NotOwned)
      ∷ [])

  -- a frame search goes on while there is a current node; then it is over, and the worker is idle
  abbrev pub goes_on : FrameSearch → CoreReply
  goes_on frame_search =
      if is_some (current_rank s frame_search) then Still else over_by frame_search

  abbrev pub going_on : FrameSearch → Option FrameSearch
  going_on frame_search = if is_some (current_rank s frame_search) then Some frame_search else None

  -- the placement of the request's page in the frame, by the frame search
  abbrev pub placement_of : FrameSearch → Frame → Request → Placement
  placement_of frame_search frame request = record {
    version = frame_search.version;
    task = request.task;
    page = request.page;
    node = frame.node;
    frame = frame;
    rank = unwrap_or (current_rank s frame_search) 0;
  }

  -- what a frame search is answered that wins the frame
  abbrev pub won_by : FrameSearch → Frame → CoreReply
  won_by frame_search frame = option_map_or
      (λ request. Won (placement_of frame_search frame request)) frame_search.request (Found frame)

  -- what an event answers that isn't refused
  abbrev pub reply_of : World → ℕ → Event → CoreReply
  reply_of world version (Accept command) = Accepted (length world.history + 1)
  reply_of world version Publish = Published (length world.history)
  reply_of world version (Begin w request) = goes_on (new_frame_search s world version request)
  reply_of world version (Seek w node) = goes_on (seeking version node)
  reply_of world version (Look w word) =
      option_map_or (λ frame_search. goes_on (frame_search_after_look s world word frame_search))
      (frame_search_of world w) Still
  reply_of world version (Try w frame) =
      if is_some (owner_of world frame)
      then option_map_or (λ frame_search. goes_on (frame_search_past frame frame_search))
      (frame_search_of world w) Still
      else option_map_or (λ frame_search. won_by frame_search frame) (frame_search_of world w) Still
  reply_of world version (Give w frame) = Given

  -- what an event does that isn't refused
  abbrev pub effect_of : World → ℕ → Event → World
  effect_of world version (Accept command) =
      record {
        history = command ∷ world.history;
        published = world.published;
        worker = world.worker;
        owner = world.owner;
      }
  effect_of world version Publish =
      record {
        history = world.history;
        published = length world.history ∷ world.published;
        worker = world.worker;
        owner = world.owner;
      }
  effect_of world version (Begin w request) =
      with_worker world w version (going_on (new_frame_search s world version request))
  effect_of world version (Seek w node) =
      with_worker world w version (going_on (seeking version node))
  effect_of world version (Look w word) =
      with_worker world w (last_of world w)
      (option_map_or (λ frame_search. going_on (frame_search_after_look s world word frame_search))
      (frame_search_of world w) None)
  effect_of world version (Try w frame) =
      if is_some (owner_of world frame)
      then with_worker world w (last_of world w)
      (option_map_or (λ frame_search. going_on (frame_search_past frame frame_search))
      (frame_search_of world w) None)
      else with_worker (with_owner world frame (Some w)) w (last_of world w) None
  effect_of world version (Give w frame) = with_owner world frame None

  -- the world after an event with this answer: a refused event leaves it as it was
  abbrev pub world_after : World → ℕ → Event → Result CoreReply CoreRefusal → World
  world_after world version event answer = if is_ok answer
      then effect_of world version event else world

-- ---- answers

-- the answer to a command without what it changed
abbrev pub version_of : Result Acceptance Refusal → Result ℕ Refusal
version_of (Ok acceptance) = Ok acceptance.version
version_of (Err refusal) = Err refusal

-- the answer to a command, a version or a refusal, as that of its Accept
abbrev pub accept_answer : Result ℕ Refusal → Result CoreReply CoreRefusal
accept_answer (Ok version) = Ok (Accepted version)
accept_answer (Err refusal) = Err (Because refusal)

-- the refusal where there is one, else the reply
abbrev pub refused_or : Option CoreRefusal → CoreReply → Result CoreReply CoreRefusal
refused_or None reply = Ok reply
refused_or (Some refusal) reply = Err refusal

-- memory may be wanting for a command that may need room, and for a Publish
abbrev pub IsOutOfMemory : Event → Result CoreReply CoreRefusal → Type 0
IsOutOfMemory (Accept command) answer = (answer ≡ Err (Because NoRoom)) × MayNeedRoom command
IsOutOfMemory Publish answer = answer ≡ Err NoMemory
IsOutOfMemory (Begin w request) answer = ⊥
IsOutOfMemory (Seek w node) answer = ⊥
IsOutOfMemory (Look w word) answer = ⊥
IsOutOfMemory (Try w frame) answer = ⊥
IsOutOfMemory (Give w frame) answer = ⊥

module _ (s : Setup) where
  -- what the event answers with ample memory
  abbrev pub answer_of : World → ℕ → Event → Result CoreReply CoreRefusal
  answer_of world version event =
      refused_or (refusal_of s world version event) (reply_of s world version event)

  -- the event may have this answer: that with ample memory, or out of memory where nothing else
  -- refuses it
  abbrev pub IsAnswer : World → ℕ → Event → Result CoreReply CoreRefusal → Type 0
  IsAnswer world version event answer = (answer ≡ answer_of world version event)
      ⊎ ((refusal_of s world version event ≡ None) × IsOutOfMemory event answer)
