-- What a core shows, and which worlds and executions it stands for.
use Rattle.std.specs.Prelude.{zero, suc, ◌≡◌, ◌==◌, ◌+◌, ◌/◌, ◌%◌, ℕ, ◌≤◌, Bool, true}
use Rattle.std.specs.Prelude.{false, Option, Some, None, Result, List, length, nat_lt}
use Rattle.std.specs.Prelude.{slice_get, slice_index, option_and_then, if◌then◌else◌}
use Rattle.std.specs.Int.{bit_at}
use Rattle.numa_machine.specs.Machine.{Hardware}
use Rattle.numa_space.specs.Standing.{SpaceState, StandsFor}
use Rattle.numa_plan.specs.Meaning.{PlanData}
use Rattle.numa_compile.specs.Standing.{PlanStandsFor}
use Rattle.numa_core.specs.World.{Setup, FrameSearch, World, newest_published, is_published}
use Rattle.numa_core.specs.World.{first_commands, frame_search_of, last_of}
use Rattle.numa_core.specs.Executions.{CoreStep, IsExecution, world_of}
use Rattle.numa_requests.specs.declared.request.Request.{Request}
use Rattle.numa_requests.specs.declared.event.Event.{Event}
use Rattle.numa_requests.specs.declared.event.CoreReply.{CoreReply}
use Rattle.numa_requests.specs.declared.event.CoreRefusal.{CoreRefusal}

-- ---- frames in a row

-- how many frames the first nodes have, this many of them, where each node has as many as the list
-- says
abbrev pub frames_before : List ℕ → ℕ → ℕ
frames_before frames zero = 0
frames_before frames (suc n) = frames_before frames n + slice_index frames n

-- the place of a frame among all frames, node by node
abbrev pub place_in : List ℕ → ℕ → ℕ → Option ℕ
place_in frames n k = if nat_lt k (slice_index frames n)
    then Some (frames_before frames n + k) else None

abbrev pub place_of : Hardware → ℕ → ℕ → Option ℕ
place_of machine n k = place_in machine.frames n k

-- ---- what a core shows

-- what a busy worker is about: its request, or none where it seeks a frame of one node, the version
-- that it took, the nodes in which it looks, and the frames that it met, one bit for each frame's
-- place in words of 64
pub record Busy : Type 0 where
  pub request : Option Request
  pub version : ℕ
  pub nodes : List ℕ
  pub met : List ℕ

-- a core: what each of its workers is about, the space of all accepted commands, the plan of those
-- that are published, and the owner of the frame at each place
pub record CoreState : Type 0 where
  pub space : SpaceState
  pub plan : PlanData
  pub workers : List (Option Busy)
  pub owners : List (Option ℕ)

-- the frame at a place is met
abbrev pub is_met : List ℕ → Option ℕ → Bool
is_met words None = false
is_met words (Some place) = bit_at (slice_index words (place / 64)) (place % 64) == 1

-- the frame is met, where each node has as many frames as the list says
abbrev pub met_at : List ℕ → List ℕ → ℕ → ℕ → Bool
met_at frames words n k = is_met words (place_in frames n k)

-- what a busy worker's frame search is, and a worker's
abbrev pub frame_search_in : List ℕ → Busy → FrameSearch
frame_search_in frames busy = record {
  request = busy.request;
  version = busy.version;
  nodes = busy.nodes;
  met = λ n k. met_at frames busy.met n k;
}

abbrev pub frame_search_of_busy : List ℕ → Option Busy → Option FrameSearch
frame_search_of_busy frames None = None
frame_search_of_busy frames (Some busy) = Some (frame_search_in frames busy)

abbrev pub frame_search_by : Hardware → Option Busy → Option FrameSearch
frame_search_by machine = frame_search_of_busy machine.frames

abbrev pub shown_frame_search : CoreState → ℕ → Option FrameSearch
shown_frame_search core w = frame_search_by core.space.machine
    (option_and_then (λ busy. busy) (slice_get core.workers w))

-- the owner in a table by place
abbrev pub owner_at : List (Option ℕ) → Option ℕ → Option ℕ
owner_at owners None = None
owner_at owners (Some place) = option_and_then (λ o. o) (slice_get owners place)

abbrev pub shown_owner : CoreState → ℕ → ℕ → Option ℕ
shown_owner core n k = owner_at core.owners (place_of core.space.machine n k)

-- what never changes in a core
abbrev pub setup_of : CoreState → Setup
setup_of core = record {
  machine = core.space.machine;
  bounds = core.space.bounds;
  workers = length core.workers;
}

-- the core stands for the world: its space for the accepted commands, its plan for those that are
-- published, and its frame searches and owners are the world's; of the published versions the
-- newest has no more commands than were accepted, and no worker has taken a newer one
pub record CoreStandsFor (core : CoreState) (world : World) : Type 0 where
  pub space : StandsFor core.space world.history
  pub plan : PlanStandsFor core.space.machine core.plan
      (first_commands (newest_published world) world.history)
  pub frame_searches : (w : ℕ) → shown_frame_search core w ≡ frame_search_of world w
  pub owners : (n k : ℕ) → shown_owner core n k ≡ world.owner n k
  pub published : is_published world (newest_published world) ≡ true
  pub known : newest_published world ≤ length world.history
  pub not_newer : (w : ℕ) → last_of world w ≤ newest_published world

-- the core shows the world's space, published plan, frame searches and owners
pub record ShowsWorld (core : CoreState) (world : World) : Type 0 where
  pub space : StandsFor core.space world.history
  pub plan : PlanStandsFor core.space.machine core.plan
      (first_commands (newest_published world) world.history)
  pub frame_searches : (w : ℕ) → shown_frame_search core w ≡ frame_search_of world w
  pub owners : (n k : ℕ) → shown_owner core n k ≡ world.owner n k

-- the execution is legal and leads to a world that the core stands for
pub record LeadsTo (past : List CoreStep) (core : CoreState) : Type 0 where
  pub legal : IsExecution (setup_of core) past
  pub stands : CoreStandsFor core (world_of (setup_of core) past)

-- some execution leads to the core
pub record HasPast (core : CoreState) : Type 0 where
  pub past : List CoreStep
  pub leads : LeadsTo past core

-- the step of an event that comes after an execution and was answered so; a Begin takes the
-- newest published version
abbrev pub core_step_after : Setup → List CoreStep → Event → Result CoreReply CoreRefusal → CoreStep
core_step_after s past event answer =
    record { event = event; version = newest_published (world_of s past); answer = answer }
