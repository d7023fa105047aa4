-- What a migration is to the core: a search for a frame of one node, and a Give.
use Rattle.std.specs.Prelude.{◌≡◌, ℕ, List, ◌∷◌, ◌++◌, Some, None}
use Rattle.numa_requests.specs.declared.event.Event.TheVariants.{Give, Seek}
use Rattle.numa_requests.specs.declared.event.CoreReply.TheVariants.{Given, Found}
use Rattle.numa_machine.specs.declared.frame.Frame.{Frame}
use Rattle.numa_core.specs.Steps.{effect_of}
use Rattle.numa_core.specs.World.{Setup, World, owner_of}
use Rattle.numa_pool.specs.Seats.{SeatView}
use Rattle.numa_refinement.specs.FrameSearches.{IsNodeSearch, TakesTurns, Turn, steps_of}
use Rattle.numa_refinement.specs.FrameSearches.{world_left}
use Rattle.numa_refinement.specs.WalkSteps.{IsCoreStep, MaySeek}

module _ (s : Setup) (w version node : ℕ) (first : World) where
  -- the first world after the Seek of the node
  abbrev pub sought_world : World
  sought_world = effect_of s first version (Seek w node)

  -- the world that the newest step leaves: that of the newest turn, or of the Seek
  abbrev pub world_behind : List Turn → World
  world_behind turns = world_left s w sought_world turns

  -- A migration to the node that led seat w from one state to the other, as it fell. Its worker may
  -- seek the node in the first world, and does so there; then the seat takes its turns, which are
  -- the steps that it gained
  pub record FallsOn (before after : SeatView) (turns : List Turn) : Type 0 where
    pub may : MaySeek s first w version node
    pub gained : after.log ≡ steps_of turns ++ before.log
    pub taken : TakesTurns s w sought_world turns

  -- The newest of the turns is the Give of the old frame, after which nobody owns that; those
  -- before it are a search of the node that found the new one, which the worker owned then
  pub record SearchesAndGives (old new : Frame) (turns : List Turn) : Type 0 where
    pub give : Turn
    pub walk : List Turn
    pub turns_are : turns ≡ give ∷ walk
    pub searches : IsNodeSearch s w first version node (Found new) walk
    pub owned : owner_of (world_behind walk) new ≡ Some w
    pub gives : IsCoreStep s give.world 0 (Give w old) Given
    pub ownerless : owner_of (world_behind turns) old ≡ None
