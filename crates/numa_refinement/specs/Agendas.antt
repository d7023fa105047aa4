-- What a worker has to do: the frame searches that its answers tell, one after the other.
use Rattle.std.specs.Prelude.{◌≡◌, ℕ, ◌<◌, ◌≤◌, ◌==◌, ◌++◌, ◌⊎◌, true, List, [], ◌∷◌, length}
use Rattle.std.specs.Prelude.{Option, Some, None, Ok, slice_index}
use Rattle.std.specs.List.{list_any}
use Rattle.std.specs.Option.{option_map}
use Rattle.numa_machine.specs.declared.frame.Frame.{Frame}
use Rattle.numa_requests.specs.declared.command.Command.{Command}
use Rattle.numa_requests.specs.declared.placement.Placement.{Placement}
use Rattle.numa_requests.specs.declared.request.Request.{Request}
use Rattle.numa_requests.specs.declared.event.Event.TheVariants.{Try}
use Rattle.numa_requests.specs.declared.event.CoreReply.TheVariants.{Exhausted, Won}
use Rattle.numa_core.specs.World.{Setup, list_at}
use Rattle.numa_core.specs.Executions.{CoreStep, worker_of}
use Rattle.numa_pool.specs.Walk.{IsWalk, IsDistinct}
use Rattle.numa_pool.specs.declared.view.Entry.{Entry}
use Rattle.numa_refinement.specs.FrameSearches.{IsPlaced}

-- A search for a frame: the request, the version and the list that it takes, the placement that it
-- ends with, if it finds a frame, and its steps on the pools, the newest first
pub record Errand : Type 0 where
  pub request : Request
  pub version : ℕ
  pub nodes : List ℕ
  pub placement : Option Placement
  pub steps : List Entry

-- the frame that it finds
abbrev pub found_by : Errand → Option Frame
found_by x = option_map (λ p. p.frame) x.placement

-- it is one of these
abbrev pub IsAmong : Errand → List Errand → Type 0
IsAmong x [] = ⊥
IsAmong x (y ∷ todo) = (x ≡ y) ⊎ IsAmong x todo

module _ (s : Setup) (published : List ℕ) (history : List Command) where
  -- The version is published, and its commands give the request this list, in which no node is
  -- twice. The steps, of which there is one at least, are a walk of it, and the placement is right
  pub record IsDue (x : Errand) : Type 0 where
    pub known : list_any (λ v. v == x.version) published ≡ true
    pub listed : list_at s.machine history x.version x.request ≡ Some x.nodes
    pub cpu : x.request.cpu < s.machine.nodes
    pub some_step : 0 < length x.steps
    pub walk : IsWalk s.machine.frames x.nodes (found_by x) x.steps
    pub distinct : IsDistinct x.nodes
    pub placed : (p : Placement) → x.placement ≡ Some p
        → IsPlaced x.version x.request x.nodes p.frame p

  -- these searches, the oldest first, of versions that never fall, have these steps, the newest
  -- first
  abbrev pub AreDue : ℕ → List Errand → List Entry → Type 0
  AreDue last [] steps = steps ≡ []
  AreDue last (x ∷ todo) steps =
      (newer : List Entry) × (steps ≡ newer ++ x.steps) × IsDue x × (last ≤ x.version)
      × AreDue x.version todo newer

-- in this execution the worker won this placement
abbrev pub HasWon : List CoreStep → ℕ → Placement → Type 0
HasWon [] w placement = ⊥
HasWon (m ∷ past) w placement =
    ((m.event ≡ Try w placement.frame) × (m.answer ≡ Ok (Won placement))) ⊎ HasWon past w placement

-- in this execution the worker was answered that its list is exhausted, at this version
abbrev pub HasExhausted : List CoreStep → ℕ → ℕ → Type 0
HasExhausted [] w version = ⊥
HasExhausted (m ∷ past) w version =
    ((worker_of m.event ≡ Some w) × (m.answer ≡ Ok (Exhausted version)))
    ⊎ HasExhausted past w version

-- what the search ends with was answered
abbrev pub Ends : List CoreStep → ℕ → ℕ → Option Placement → Type 0
Ends past w version None = HasExhausted past w version
Ends past w version (Some p) = HasWon past w p

abbrev pub IsAnswered : List CoreStep → ℕ → Errand → Type 0
IsAnswered past w x = Ends past w x.version x.placement

-- no listed node has a frame, by the commands up to the version
pub record IsBare (s : Setup) (history : List Command) (version : ℕ) (request : Request) :
    Type 0 where
  pub nodes : List ℕ
  pub listed : list_at s.machine history version request ≡ Some nodes
  pub none_there : (i : ℕ) → i < length nodes
      → slice_index s.machine.frames (slice_index nodes i) ≡ 0
