-- Faults and a desk in an interleaving of all that is done.
use Rattle.std.specs.Prelude.{◌≢◌, ℕ, ◌==◌, List, [], ◌∷◌, ◌++◌, if◌then◌else◌}
use Rattle.numa_requests.specs.declared.request.Request.{Request}
use Rattle.numa_core.specs.World.{Setup, World}
use Rattle.numa_core.specs.Executions.{world_of}
use Rattle.numa_requests.specs.declared.event.Event.{Event}
use Rattle.numa_requests.specs.declared.event.Event.TheVariants.{Accept, Publish, Begin, Seek}
use Rattle.numa_requests.specs.declared.event.Event.TheVariants.{Look, Try, Give}
use Rattle.numa_publish.specs.Shown.{DeskState}
use Rattle.numa_refinement.specs.FrameSearches.{Turn}
use Rattle.numa_refinement.specs.Moves.{PoolState}
use Rattle.numa_refinement.specs.Plays.{Deed, makes_step, splits, has_event, Done, pools_of}
use Rattle.numa_refinement.specs.Plays.{execution_of}
use Rattle.numa_refinement.specs.Desks.{Accepts, IsNew, Publishes}

-- the event is no Begin and no Seek of worker w
abbrev pub IsOther : ℕ → Event → Type 0
IsOther w (Accept command) = Unit {0}
IsOther w Publish = Unit {0}
IsOther w (Begin v request) = v ≢ w
IsOther w (Seek v node) = v ≢ w
IsOther w (Look v word) = Unit {0}
IsOther w (Try v frame) = Unit {0}
IsOther w (Give v frame) = Unit {0}

-- the deed is none
abbrev pub IsNoBegin : ℕ → Deed → Type 0
IsNoBegin w (makes_step id e) = Unit {0}
IsNoBegin w (splits id) = Unit {0}
IsNoBegin w (has_event version event) = IsOther w event

-- none of the deeds is one
abbrev pub HaveNoBegin : ℕ → List Done → Type 0
HaveNoBegin w [] = Unit {0}
HaveNoBegin w (d ∷ done) = HaveNoBegin w done × IsNoBegin w d.deed

-- worker w begins, by no step of the pools
abbrev pub begins : ℕ → ℕ → Request → PoolState → Done
begins w version request pools = record {
  deed = has_event version (Begin w request);
  pools = pools;
}

-- worker w seeks a frame of the node, by no step of the pools
abbrev pub seeks : ℕ → ℕ → ℕ → PoolState → Done
seeks w version node pools = record {
  deed = has_event version (Seek w node);
  pools = pools;
}

-- these turns, and the deed's where it is a step of seat w
abbrev pub with_turn : ℕ → Deed → World → PoolState → PoolState → List Turn → List Turn
with_turn w (makes_step id e) world before after turns =
    if id == w
    then record { step = e; world = world; before = before; after = after } ∷ turns
    else turns
with_turn w (splits id) world before after turns = turns
with_turn w (has_event version event) world before after turns = turns

-- the turns that seat w takes in the later deeds, each in the world and the pools that it finds
abbrev pub turns_in : Setup → ℕ → PoolState → List Done → List Done → List Turn
turns_in s w first [] earlier = []
turns_in s w first (d ∷ later) earlier =
    with_turn w d.deed (world_of s (execution_of s (later ++ earlier)))
    (pools_of s first (later ++ earlier)) d.pools (turns_in s w first later earlier)

module _ (s : Setup) where
  -- the desk after a command or a publication: it is its call; after another event: it is as before
  abbrev pub CallsFor : Event → (DeskState → Type 0) → DeskState → Type 0
  CallsFor (Accept command) Earlier desk =
      (before : DeskState) × Earlier before × ((version : ℕ) × Accepts before command version desk)
  CallsFor Publish Earlier desk =
      (before : DeskState) × Earlier before × (before.pending ≢ []) × Publishes before desk
  CallsFor (Begin v request) Earlier desk = Earlier desk
  CallsFor (Seek v node) Earlier desk = Earlier desk
  CallsFor (Look v word) Earlier desk = Earlier desk
  CallsFor (Try v frame) Earlier desk = Earlier desk
  CallsFor (Give v frame) Earlier desk = Earlier desk

  abbrev pub CallsAt : Deed → (DeskState → Type 0) → DeskState → Type 0
  CallsAt (makes_step id e) Earlier desk = Earlier desk
  CallsAt (splits id) Earlier desk = Earlier desk
  CallsAt (has_event version event) Earlier desk = CallsFor event Earlier desk

  -- a new desk, after calls that are the commands and publications of these deeds
  abbrev pub Calls : List Done → DeskState → Type 0
  Calls [] desk = IsNew s.machine s.bounds desk
  Calls (d ∷ done) desk = CallsAt d.deed (Calls done) desk
