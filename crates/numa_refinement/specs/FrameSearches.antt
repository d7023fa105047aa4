-- A seat's walk, step by step, and the frame search that it is.
use Rattle.std.specs.Prelude.{◌≡◌, ℕ, List, [], ◌∷◌, map, slice_get, Option, Some, None}
use Rattle.numa_machine.specs.declared.frame.Frame.{Frame}
use Rattle.numa_requests.specs.declared.placement.Placement.{Placement}
use Rattle.numa_requests.specs.declared.request.Request.{Request}
use Rattle.numa_core.specs.World.{Setup, World, frame_search_of}
use Rattle.numa_core.specs.Steps.{effect_of}
use Rattle.numa_requests.specs.declared.event.Event.TheVariants.{Begin, Seek}
use Rattle.numa_requests.specs.declared.event.CoreReply.{CoreReply}
use Rattle.numa_requests.specs.declared.event.CoreReply.TheVariants.{Still, Exhausted, Won}
use Rattle.numa_requests.specs.declared.event.CoreReply.TheVariants.{Found, Full}
use Rattle.numa_pool.specs.declared.view.Entry.{Entry}
use Rattle.numa_refinement.specs.WalkSteps.{IsCoreStep, event_of}
use Rattle.numa_refinement.specs.Moves.{PoolState, Makes}
use Rattle.numa_refinement.specs.Tie.{IsTied}

-- one step of a seat: what its log shows, the core's world in which it is made, and the pools
-- before and after it
pub record Turn : Type 0 where
  pub step : Entry
  pub world : World
  pub before : PoolState
  pub after : PoolState

-- the steps that the log shows, in the order of the turns
abbrev pub steps_of : List Turn → List Entry
steps_of turns = map (λ t. t.step) turns

module _ (s : Setup) (id : ℕ) where
  -- the world that the newest of these turns leaves; where there is none, this one
  abbrev pub world_left : World → List Turn → World
  world_left first [] = first
  world_left first (t ∷ turns) = effect_of s t.world 0 (event_of id t.step)

  -- Seat id makes these steps, the newest first, after this world. Others may act between any two
  -- of them: the world is tied to the pools at each, and none of the others changes the frame
  -- search of the seat's worker
  abbrev pub TakesTurns : World → List Turn → Type 0
  TakesTurns first [] = Unit {0}
  TakesTurns first (t ∷ turns) =
      TakesTurns first turns × IsTied s t.world t.before × Makes t.step id t.before t.after
      × (frame_search_of t.world id ≡ frame_search_of (world_left first turns) id)

  -- A search that begins so: the worker looks and tries at each turn. None of it is refused, the
  -- newest step is answered so, and each before it Still
  abbrev pub IsSearch : (CoreReply → Type 0) → CoreReply → List Turn → Type 0
  IsSearch Begins reply [] = Begins reply
  IsSearch Begins reply (t ∷ turns) =
      IsCoreStep s t.world 0 (event_of id t.step) reply × IsSearch Begins Still turns

  -- a frame search: in this world the worker begins with the request
  abbrev pub IsFrameSearch : World → ℕ → Request → CoreReply → List Turn → Type 0
  IsFrameSearch first version request reply turns =
      IsSearch (λ answer. IsCoreStep s first version (Begin id request) answer) reply turns

  -- a search of one node: in this world the worker seeks a frame of it
  abbrev pub IsNodeSearch : World → ℕ → ℕ → CoreReply → List Turn → Type 0
  IsNodeSearch first version node reply turns =
      IsSearch (λ answer. IsCoreStep s first version (Seek id node) answer) reply turns

module _ (version : ℕ) (request : Request) (nodes : List ℕ) where
  -- the placement is of this frame, for this request, at the version; its node stands at its rank
  -- in this list
  pub record IsPlaced (frame : Frame) (placement : Placement) : Type 0 where
    pub version_is : placement.version ≡ version
    pub task : placement.task ≡ request.task
    pub page : placement.page ≡ request.page
    pub frame_is : placement.frame ≡ frame
    pub node : placement.node ≡ frame.node
    pub rank : slice_get nodes placement.rank ≡ Some frame.node

  -- the reply tells what the walk found: a placement in the frame that it won, or that the list is
  -- exhausted
  abbrev pub TellsOfPage : Option Frame → CoreReply → Type 0
  TellsOfPage None reply = reply ≡ Exhausted version
  TellsOfPage (Some frame) reply =
      (placement : Placement) × (reply ≡ Won placement) × IsPlaced frame placement

-- of a search for a frame of one node it tells the frame, or that the node is full
abbrev pub TellsOfNode : Option Frame → CoreReply → Type 0
TellsOfNode None reply = reply ≡ Full
TellsOfNode (Some frame) reply = reply ≡ Found frame

-- what a search with this request, or with none, is answered at its end
abbrev pub Tells : ℕ → Option Request → List ℕ → Option Frame → CoreReply → Type 0
Tells version None nodes found reply = TellsOfNode found reply
Tells version (Some request) nodes found reply = TellsOfPage version request nodes found reply
