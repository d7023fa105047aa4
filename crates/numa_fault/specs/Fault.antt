-- What a fault does: it enters once, and a seat walks the page's fallback list for a frame.
use Rattle.std.specs.Prelude.{◌≡◌, ℕ, ◌+◌, ◌++◌, List, length, Option, Some, None, Result, Ok, Err}
use Rattle.std.specs.Prelude.{slice_get}
use Rattle.numa_machine.specs.declared.frame.Frame.{Frame}
use Rattle.numa_requests.specs.declared.placement.Placement.{Placement}
use Rattle.numa_requests.specs.declared.request.Request.{Request}
use Rattle.numa_machine.specs.Machine.{Hardware}
use Rattle.numa_pool.specs.Frames.{with_found, times}
use Rattle.numa_pool.specs.Seats.{SeatView}
use Rattle.numa_pool.specs.Walk.{IsWalk, IsDistinct, LoadsOnce, TriesOnce}
use Rattle.numa_pool.specs.declared.view.Entry.{Entry}
use Rattle.numa_publish.specs.Batches.{Extends}
use Rattle.numa_publish.specs.Shown.{ReaderState}
use Rattle.numa_space.specs.Lists.{node_list}
use Rattle.numa_space.specs.Standing.{place_refusal_of}
use Rattle.numa_requests.specs.declared.command.Command.{Command}
use Rattle.numa_machine.specs.declared.refusal.PlaceRefusal.{PlaceRefusal}
use Rattle.numa_machine.specs.declared.refusal.PlaceRefusal.TheVariants.{BadCpu as cpu_is_bad}
use Rattle.numa_machine.specs.declared.refusal.PlaceRefusal.TheVariants.{Unmapped as is_unmapped}
use Rattle.numa_fault.specs.Worker.{Parts}
use Rattle.numa_fault.specs.declared.refusal.FaultRefusal.{FaultRefusal}
use Rattle.numa_fault.specs.declared.refusal.FaultRefusal.TheVariants.{NoView, BadCpu, Unmapped}
use Rattle.numa_fault.specs.declared.refusal.FaultRefusal.TheVariants.{Exhausted}

-- ---- the reader

-- one entry that was let in: what is seen now extends what was seen before, and the newest of the
-- versions that are seen is the number of its commands
pub record LetsIn (before after : ReaderState) : Type 0 where
  pub desk : after.desk ≡ before.desk
  pub enters : after.enters ≡ before.enters + 1
  pub refused : after.refused ≡ before.refused
  pub history : Extends before.history after.history
  pub versions : Extends before.versions after.versions
  pub newest : slice_get after.versions 0 ≡ Some (length after.history)

-- one entry that was refused: nothing but the two numbers changes
abbrev pub refused_once : ReaderState → ReaderState
refused_once r = record r { enters = r.enters + 1; refused = r.refused + 1 }

-- ---- the seat

-- The steps that the seat gained are a walk of these nodes, of which none stands twice, and it made
-- no other. No word is loaded twice in it and no frame is tried twice. The frames held gain exactly
-- the one that was won, if one was
pub record Walks
    (frames nodes : List ℕ) (won : Option Frame) (before after : SeatView) : Type 0 where
  pub table : after.table ≡ before.table
  pub distinct : IsDistinct nodes
  pub steps : (es : List Entry) × (after.log ≡ es ++ before.log)
      × IsWalk frames nodes won es × LoadsOnce es × TriesOnce es
  pub no_other : after.unlogged ≡ before.unlogged
  pub held : after.held ≡ with_found won before.held

-- ---- one page

-- the fallback list of the request, and why its page is refused, by the history
abbrev pub list_of : Hardware → List Command → Request → List ℕ
list_of machine history request = node_list machine history request.task request.page request.cpu

abbrev pub refusal_of : Hardware → List Command → Request → Option PlaceRefusal
refusal_of machine history request = place_refusal_of machine history request.page request.cpu

module _ (frames : List ℕ) (machine : Hardware) (history : List Command) (request : Request) where
  -- each frame of each node of the page's list was found taken
  pub record FindsNone (version : ℕ) (before after : SeatView) : Type 0 where
    pub stands : refusal_of machine history request ≡ None
    pub version_is : version ≡ length history
    pub walks : Walks frames (list_of machine history request) None before after

  -- The page was placed. The version is the history's, task and page are the request's, the node is
  -- the frame's and stands in the page's list at the rank. The seat won the frame by a walk of the
  -- list, and did not hold it before
  pub record Places (placement : Placement) (before after : SeatView) : Type 0 where
    pub stands : refusal_of machine history request ≡ None
    pub version : placement.version ≡ length history
    pub task : placement.task ≡ request.task
    pub page : placement.page ≡ request.page
    pub node : placement.node ≡ placement.frame.node
    pub rank : slice_get (list_of machine history request) placement.rank ≡ Some placement.node
    pub walks : Walks frames (list_of machine history request) (Some placement.frame) before after
    pub fresh : times placement.frame.node placement.frame.number before.held ≡ 0

  -- the request is served by this history: what the seat does, and what is answered
  abbrev pub IsServed : SeatView → SeatView → Result Placement FaultRefusal → Type 0
  IsServed before after (Err NoView) = ⊥
  IsServed before after (Err BadCpu) =
      (refusal_of machine history request ≡ Some cpu_is_bad) × (after ≡ before)
  IsServed before after (Err (Unmapped version)) =
      (refusal_of machine history request ≡ Some is_unmapped) × (version ≡ length history)
      × (after ≡ before)
  IsServed before after (Err (Exhausted version)) = FindsNone version before after
  IsServed before after (Ok placement) = Places placement before after

-- ---- a fault

-- the worker was let in, and the request is served by what it sees now
abbrev pub IsServedInside :
    List ℕ → Request → Parts → Parts → Result Placement FaultRefusal → Type 0
IsServedInside frames request before after answer =
    LetsIn before.reader after.reader
    × IsServed frames after.reader.desk.machine after.reader.history request
    before.seat after.seat answer

-- a fault: either its entry was refused, and nothing else happened; or it was let in and served
abbrev pub Faults : List ℕ → Request → Parts → Parts → Result Placement FaultRefusal → Type 0
Faults frames request before after (Err NoView) =
    after ≡ record before { reader = refused_once before.reader }
Faults frames request before after (Err BadCpu) =
    IsServedInside frames request before after (Err BadCpu)
Faults frames request before after (Err (Unmapped version)) =
    IsServedInside frames request before after (Err (Unmapped version))
Faults frames request before after (Err (Exhausted version)) =
    IsServedInside frames request before after (Err (Exhausted version))
Faults frames request before after (Ok placement) =
    IsServedInside frames request before after (Ok placement)
