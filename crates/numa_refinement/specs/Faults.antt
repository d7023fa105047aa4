-- A fault as it falls among the steps of the core's world, while other threads act between them.
use Rattle.std.specs.Prelude.{◌≡◌, ℕ, ◌<◌, ◌≤◌, ◌++◌, List, [], ◌∷◌, None, length}
use Rattle.numa_requests.specs.declared.command.Command.{Command}
use Rattle.numa_requests.specs.declared.request.Request.{Request}
use Rattle.numa_core.specs.World.{Setup, World, frame_search_of, last_of}
use Rattle.numa_core.specs.Steps.{effect_of}
use Rattle.numa_requests.specs.declared.event.Event.TheVariants.{Begin}
use Rattle.numa_pool.specs.Seats.{SeatView}
use Rattle.numa_refinement.specs.FrameSearches.{TakesTurns, Turn, steps_of, world_left}
use Rattle.numa_refinement.specs.LegalSteps.{IsPublishedIn}

-- worker w is ready for a fault by this history: it is published, and the worker is idle and was
-- told no later version
pub record IsReady (s : Setup) (w : ℕ) (history : List Command) (world : World) : Type 0 where
  pub worker : w < s.workers
  pub known : IsPublishedIn world history
  pub idle : frame_search_of world w ≡ None
  pub last : last_of world w ≤ length history

module _ (s : Setup) (w : ℕ) (history : List Command) (request : Request) (first : World) where
  -- the first world after the Begin of the request at the version of the history
  abbrev pub begun_world : World
  begun_world = effect_of s first (length history) (Begin w request)

  -- the world that the newest step leaves: that of the newest turn, or of the Begin
  abbrev pub last_world : List Turn → World
  last_world turns = world_left s w begun_world turns

  -- A fault that led seat w from one state to the other, as it fell. Its worker is ready in the
  -- first world, and begins there; then the seat takes its turns, which are the steps that it
  -- gained, the newest first, each in a world that is tied to the pools, where others left the
  -- worker's frame search alone
  pub record Falls (before after : SeatView) (turns : List Turn) : Type 0 where
    pub ready : IsReady s w history first
    pub gained : after.log ≡ steps_of turns ++ before.log
    pub taken : TakesTurns s w begun_world turns

-- and others told the worker no version
abbrev pub LeavesLast : Setup → ℕ → World → List Turn → Type 0
LeavesLast s w begun [] = Unit {0}
LeavesLast s w begun (t ∷ turns) =
    LeavesLast s w begun turns × (last_of t.world w ≡ last_of (world_left s w begun turns) w)
