-- What seats and their steps are to the core: worker w of its world stands for seat w of the pools.
use Rattle.std.specs.Prelude.{◌≡◌, ℕ, ◌<◌, ◌≤◌, List, ◌∷◌, length}
use Rattle.std.specs.Prelude.{slice_index, Some, slice_get, ◌↔◌}
use mathlib.Core.Option.{some}
use lib.ListN.{get_elem?}
use Rattle.numa_core.specs.World.{Setup, World, FrameSearch, current_rank, frame_search_of}
use Rattle.numa_core.specs.Steps.{put}
use Rattle.numa_pool.specs.declared.view.Entry.{Entry}
use Rattle.numa_pool.specs.declared.view.View.{View}
use Rattle.numa_pool.specs.Frames.{times}
use Rattle.numa_pool.specs.Rule.{Counted}
use Rattle.numa_pool.specs.Walk.{met}
use Rattle.numa_refinement.specs.Moves.{PoolState}

-- each frame's owner is the seat that holds it
abbrev pub OwnsWhatIsHeld : World → List View → Type 0
OwnsWhatIsHeld world views =
    (n k id : ℕ)
    → world.owner n k ≡ Some id
    ↔ ((v : View) × (get_elem? views id ≡ some v) × (0 < times n k v.held))

-- the frame search has met exactly the frames that these steps found taken
abbrev pub HasMet : FrameSearch → List Entry → Type 0
HasMet frame_search es = (n k : ℕ) → frame_search.met n k ≡ met es n k

-- the frame search's current node is this one: it stands in the frame search's list at the current
-- rank
abbrev pub IsAt : Setup → FrameSearch → ℕ → Type 0
IsAt s frame_search n =
    (rank : ℕ) × (current_rank s frame_search ≡ Some rank)
    × (slice_get frame_search.nodes rank ≡ Some n)

-- The world is tied to the pools: their rule holds, as the counts that each step keeps; each
-- frame's owner is the seat that holds it; and each seat has a worker
pub record IsTied (s : Setup) (world : World) (state : PoolState) : Type 0 where
  pub few : (n : ℕ) → slice_index s.machine.frames n ≤ 4096
  pub rule : Counted s.machine.frames state.words state.views
  pub owners : OwnsWhatIsHeld world state.views
  pub workers : length state.views ≤ s.workers

-- each busy worker's frame search has met what its seat's steps since the Begin found taken
abbrev pub HaveMet : World → (ℕ → List Entry) → Type 0
HaveMet world since = (id : ℕ) (frame_search : FrameSearch)
    → frame_search_of world id ≡ Some frame_search → HasMet frame_search (since id)

-- each seat's steps since its worker's Begin, after one more step of seat id
abbrev pub noted : (ℕ → List Entry) → ℕ → Entry → ℕ → List Entry
noted since id e = put since id (e ∷ since id)
