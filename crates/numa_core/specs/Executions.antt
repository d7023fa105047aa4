-- Executions, the newest step first, and what holds of each placement in them.
use Rattle.std.specs.Prelude.{◌≡◌, ℕ, ◌/◌, ◌<◌, ◌==◌, ◌&&◌, ◌||◌, ◌⊎◌, Bool, true, false}
use Rattle.std.specs.Prelude.{Option, Some, None, Result, Ok, Err, is_some, is_ok}
use Rattle.std.specs.Prelude.{List, [], ◌∷◌, length, slice_index, if◌then◌else◌}
use Rattle.std.specs.Option.{option_map_or, option_or}
use Rattle.numa_machine.specs.Machine.{frames_of}
use Rattle.numa_machine.specs.declared.frame.Frame.{Frame}
use Rattle.numa_requests.specs.declared.placement.Placement.{Placement}
use Rattle.numa_requests.specs.declared.request.Request.{Request}
use Rattle.numa_requests.specs.declared.event.Event.{Event}
use Rattle.numa_requests.specs.declared.event.Event.TheVariants.{Accept, Publish, Begin, Seek}
use Rattle.numa_requests.specs.declared.event.Event.TheVariants.{Look, Try, Give}
use Rattle.numa_requests.specs.declared.event.CoreReply.{CoreReply}
use Rattle.numa_requests.specs.declared.event.CoreReply.TheVariants.{Accepted, Published, Still}
use Rattle.numa_requests.specs.declared.event.CoreReply.TheVariants.{Exhausted, Won, Found, Full}
use Rattle.numa_requests.specs.declared.event.CoreReply.TheVariants.{Given}
use Rattle.numa_requests.specs.declared.event.CoreRefusal.{CoreRefusal}
use Rattle.numa_core.specs.World.{Setup, World, opening, is_published, newest_published}
use Rattle.numa_core.specs.World.{frame_search_of, owner_of, is_frame, list_at, at_current}
use Rattle.numa_core.specs.Steps.{world_after, answer_of, IsAnswer, MayTake}

-- an event with its answer, and the version that it took if it is a Begin or a Seek
pub record CoreStep : Type 0 where
  pub event : Event
  pub version : ℕ
  pub answer : Result CoreReply CoreRefusal

-- the worker whose step the event is; a command or a publication is no worker's
abbrev pub worker_of : Event → Option ℕ
worker_of (Accept command) = None
worker_of Publish = None
worker_of (Begin w request) = Some w
worker_of (Seek w node) = Some w
worker_of (Look w word) = Some w
worker_of (Try w frame) = Some w
worker_of (Give w frame) = Some w

-- the event is a command
abbrev pub is_accept : Event → Bool
is_accept (Accept command) = true
is_accept Publish = false
is_accept (Begin w request) = false
is_accept (Seek w node) = false
is_accept (Look w word) = false
is_accept (Try w frame) = false
is_accept (Give w frame) = false

-- a command was accepted at the step
abbrev pub accepts : CoreStep → Bool
accepts m = is_ok m.answer && is_accept m.event

-- ---- executions

module _ (s : Setup) where
  -- the world after an execution
  abbrev pub world_of : List CoreStep → World
  world_of [] = opening
  world_of (m ∷ past) = world_after s (world_of past) m.version m.event m.answer

  -- each step is a step of the world that the steps before it left
  abbrev pub IsExecution : List CoreStep → Type 0
  IsExecution [] = Unit {0}
  IsExecution (m ∷ past) = IsExecution past × MayTake (world_of past) m.version m.event
      × IsAnswer s (world_of past) m.version m.event m.answer

  -- the step of an event that comes after an execution, with ample memory; a Begin or a Seek takes
  -- the newest published version
  abbrev pub next_core_step : List CoreStep → Event → CoreStep
  next_core_step past event = record {
    event = event;
    version = newest_published (world_of past);
    answer = answer_of s (world_of past) (newest_published (world_of past)) event;
  }

-- ---- the last Begin of a worker

-- what a worker's Begin asked and took, and what came before it
pub record Begun : Type 0 where
  pub request : Request
  pub version : ℕ
  pub before : List CoreStep

-- the Begin of the worker that this event is
abbrev pub begin_event : ℕ → Event → ℕ → List CoreStep → Option Begun
begin_event w (Begin v request) version past = if v == w
    then Some (record { request = request; version = version; before = past }) else None
begin_event w (Accept command) version past = None
begin_event w Publish version past = None
begin_event w (Seek v node) version past = None
begin_event w (Look v word) version past = None
begin_event w (Try v frame) version past = None
begin_event w (Give v frame) version past = None

abbrev pub begun_at : ℕ → CoreStep → List CoreStep → Option Begun
begun_at w m past = if is_ok m.answer then begin_event w m.event m.version past else None

abbrev pub or_else : Option Begun → Option Begun → Option Begun
or_else (Some begun) other = Some begun
or_else None other = other

-- the last Begin of the worker that wasn't refused
abbrev pub last_begin : ℕ → List CoreStep → Option Begun
last_begin w [] = None
last_begin w (m ∷ past) = or_else (begun_at w m past) (last_begin w past)

-- the node of the worker's Seek that this event is
abbrev pub seek_event : ℕ → Event → Option ℕ
seek_event w (Seek v node) = if v == w then Some node else None
seek_event w (Accept command) = None
seek_event w Publish = None
seek_event w (Begin v request) = None
seek_event w (Look v word) = None
seek_event w (Try v frame) = None
seek_event w (Give v frame) = None

abbrev pub sought_at : ℕ → CoreStep → Option ℕ
sought_at w m = if is_ok m.answer then seek_event w m.event else None

-- the node of the worker's last Seek that wasn't refused
abbrev pub last_seek : ℕ → List CoreStep → Option ℕ
last_seek w [] = None
last_seek w (m ∷ past) = option_or (sought_at w m) (last_seek w past)

-- ---- right placements

module _ (s : Setup) where
  -- the event is a Look of the worker at a word of its current node that has the frame, or its Try
  -- of the frame
  abbrev pub reads : World → ℕ → Event → ℕ → ℕ → Bool
  reads world w (Look v word) n k = (v == w)
      && (option_map_or (λ frame_search. at_current s frame_search (λ m. n == m))
      (frame_search_of world w) false
      && (k / 64 == word))
  reads world w (Try v frame) n k = (v == w) && is_frame frame n k
  reads world w (Accept command) n k = false
  reads world w Publish n k = false
  reads world w (Begin v request) n k = false
  reads world w (Seek v node) n k = false
  reads world w (Give v frame) n k = false

  -- the event is a Look or a Try of the worker that finds the frame with an owner
  abbrev pub finds : World → ℕ → Event → ℕ → ℕ → Bool
  finds world w event n k = reads world w event n k && is_some (world.owner n k)

  -- since its last Begin or Seek the worker found the frame with an owner
  abbrev pub found_owned : ℕ → List CoreStep → ℕ → ℕ → Bool
  found_owned w [] n k = false
  found_owned w (m ∷ past) n k =
      if is_some (begun_at w m past) || is_some (sought_at w m) then false
      else (is_ok m.answer && finds (world_of s past) w m.event n k) || found_owned w past n k

  -- since its last Begin or Seek the worker found each frame of each of the first nodes of the list
  -- with an owner, as many nodes as the count says
  abbrev pub AllFoundOwned : ℕ → List ℕ → ℕ → List CoreStep → Type 0
  AllFoundOwned w nodes count past = (i k : ℕ) → i < count →
      k < frames_of s.machine (slice_index nodes i) →
      found_owned w past (slice_index nodes i) k ≡ true

  -- after the execution the placement is right for the worker: its version is that of the worker's
  -- last Begin, and was published before it; task and page are those that were asked for; its node
  -- is at its rank in the fallback list of the accepted commands up to that version; its frame is
  -- one of that node and had no owner; and each frame of each node earlier in the list was found
  -- with an owner since that Begin
  pub record IsRightPlacement (w : ℕ) (placement : Placement) (past : List CoreStep) : Type 0 where
    pub begun : Begun
    pub nodes : List ℕ
    pub is_last : last_begin w past ≡ Some begun
    pub version : placement.version ≡ begun.version
    pub published : is_published (world_of s begun.before) begun.version ≡ true
    pub task : placement.task ≡ begun.request.task
    pub page : placement.page ≡ begun.request.page
    pub listed : list_at s.machine (world_of s past).history begun.version begun.request
        ≡ Some nodes
    pub rank : placement.rank < length nodes
    pub node : slice_index nodes placement.rank ≡ placement.node
    pub frame_node : placement.frame.node ≡ placement.node
    pub frame_number : placement.frame.number < frames_of s.machine placement.node
    pub free : owner_of (world_of s past) placement.frame ≡ None
    pub earlier : AllFoundOwned w nodes placement.rank past

  -- after the execution the list of the worker's last Begin is exhausted: that Begin took this
  -- version, which was published before it; and each frame of each node of the list was found with
  -- an owner since
  pub record IsExhausted (w version : ℕ) (past : List CoreStep) : Type 0 where
    pub begun : Begun
    pub nodes : List ℕ
    pub is_last : last_begin w past ≡ Some begun
    pub its_version : begun.version ≡ version
    pub published : is_published (world_of s begun.before) begun.version ≡ true
    pub listed : list_at s.machine (world_of s past).history begun.version begun.request
        ≡ Some nodes
    pub every : AllFoundOwned w nodes (length nodes) past

  -- after the execution the frame is right for a worker that seeks one node: it belongs to the node
  -- of the worker's last Seek, and had no owner
  pub record IsRightFrame (w : ℕ) (frame : Frame) (past : List CoreStep) : Type 0 where
    pub sought : last_seek w past ≡ Some frame.node
    pub frame_number : frame.number < frames_of s.machine frame.node
    pub free : owner_of (world_of s past) frame ≡ None

  -- after the execution the node of the worker's last Seek is full: each frame of it was found with
  -- an owner since
  pub record IsFull (w : ℕ) (past : List CoreStep) : Type 0 where
    pub node : ℕ
    pub sought : last_seek w past ≡ Some node
    pub every : (k : ℕ) → k < frames_of s.machine node → found_owned w past node k ≡ true

-- ---- what passes from hand to hand

-- the answer says that the frame was won, for a page or of a node that was sought
abbrev pub WinsFrame : Frame → Result CoreReply CoreRefusal → Type 0
WinsFrame frame answer = (answer ≡ Ok (Found frame))
    ⊎ ((placement : Placement) × (answer ≡ Ok (Won placement)) × (placement.frame ≡ frame))

-- the worker wins the frame
pub record IsWin (w : ℕ) (frame : Frame) (m : CoreStep) : Type 0 where
  pub worker : worker_of m.event ≡ Some w
  pub wins : WinsFrame frame m.answer

abbrev pub gives_event : ℕ → Frame → Event → Bool
gives_event w frame (Give v given) = (v == w) && is_frame given frame.node frame.number
gives_event w frame (Accept command) = false
gives_event w frame Publish = false
gives_event w frame (Begin v request) = false
gives_event w frame (Seek v node) = false
gives_event w frame (Look v word) = false
gives_event w frame (Try v tried) = false

-- the worker gives the frame back
abbrev pub gives_back : ℕ → Frame → CoreStep → Bool
gives_back w frame m = is_ok m.answer && gives_event w frame m.event

-- the version that a reply Won or Exhausted carries
abbrev pub version_told : Result CoreReply CoreRefusal → Option ℕ
version_told (Err refusal) = None
version_told (Ok Still) = None
version_told (Ok Given) = None
version_told (Ok (Found frame)) = None
version_told (Ok Full) = None
version_told (Ok (Accepted version)) = None
version_told (Ok (Published version)) = None
version_told (Ok (Exhausted version)) = Some version
version_told (Ok (Won placement)) = Some placement.version
