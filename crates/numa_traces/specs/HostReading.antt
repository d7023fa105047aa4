-- Lines of a trace of a host, and their replay.
use Rattle.std.specs.Prelude.{◌≡◌, ⊤, ℕ, List, ◌∷◌, Option, None, Some, Result, Ok, Err}
use Rattle.numa_plan.specs.Meaning.{PlanData}
use Rattle.numa_traces.specs.Accesses.{access_of, mark_of}
use Rattle.numa_traces.specs.Hosting.{IsHostReplay}
use Rattle.numa_traces.specs.Hosting.{Accepts, AreSameProcesses, EndsHostReplay, IsHostMark}
use Rattle.numa_traces.specs.Phases.{AreMarks, Closes, Step, Touches, accesses_in}
use Rattle.numa_traces.specs.declared.access.Access.{Access}
use Rattle.numa_traces.specs.declared.access.TraceLine.{TraceLine}
use Rattle.numa_traces.specs.declared.fault.AccessError.{AccessError}
use Rattle.numa_traces.specs.declared.fault.ReplayError.{ReplayError}
use Rattle.numa_traces.specs.declared.fault.ReplayError.TheVariants.{Malformed, NoMemory, Unnamed}
use Rattle.numa_traces.specs.declared.host_reading.HostTrace.{HostTrace}

-- an access of a host, whose process has to be named
abbrev pub access_in : Option ℕ → Access → Result (Option (ℕ × Access)) ReplayError
access_in None access = Err Unnamed
access_in (Some process) access = Ok (Some (process, access))

-- the access that a line has
abbrev pub said_in : Result (Option TraceLine) AccessError
    → Result (Option (ℕ × Access)) ReplayError
said_in (Err fault) = Err (Malformed fault)
said_in (Ok None) = Ok None
said_in (Ok (Some line)) = access_in line.process line.access

-- the step that an access is, if there is one
abbrev pub touch_in : Result (Option (ℕ × Access)) ReplayError
    → Result (Option (Step (ℕ × Access))) ReplayError
touch_in (Err fault) = Err fault
touch_in (Ok None) = Ok None
touch_in (Ok (Some it)) = Ok (Some (Touches it))

-- a mark, or else an access
abbrev pub step_by : Option (List ℕ) → List ℕ → Result (Option (Step (ℕ × Access))) ReplayError
step_by (Some text) line = Ok (Some (Closes text))
step_by None line = touch_in (said_in (access_of line))

-- the step that a line is
abbrev pub step_in : List ℕ → Result (Option (Step (ℕ × Access))) ReplayError
step_in line = step_by (mark_of line) line

-- steps were replayed where nodes had so much room, which met what a replay has met
pub record HasMet (room : List ℕ) (plans : ℕ → PlanData) (steps : List (Step (ℕ × Access)))
    (at : HostTrace) : Type 0 where
  pub replay : IsHostReplay room plans (accesses_in steps) at.replay
  pub marks : AreMarks (IsHostMark room plans) steps at.marks.items

-- no plan refuses a step, and its process is there
abbrev pub Allows : HostTrace → Step (ℕ × Access) → Type 0
Allows at (Touches it) = Accepts at.replay it.0 it.1
Allows at (Closes text) = ⊤

-- a line with this step was replayed; where it has none, nothing has changed
abbrev pub ReplaysHostLine : Result (Option (Step (ℕ × Access))) ReplayError → HostTrace
    → HostTrace → Type 0
ReplaysHostLine (Err why) old new = ⊥
ReplaysHostLine (Ok None) old new = new ≡ old
ReplaysHostLine (Ok (Some step)) old new =
    AreSameProcesses old.replay.processes new.replay.processes × Allows old step
    × ((room : List ℕ) (plans : ℕ → PlanData) (steps : List (Step (ℕ × Access)))
    → HasMet room plans steps old → HasMet room plans (step ∷ steps) new)

-- why a line with this step can't be replayed
abbrev pub EndsAtHostLine : Result (Option (Step (ℕ × Access))) ReplayError → HostTrace
    → ReplayError → Type 0
EndsAtHostLine (Err fault) old why = why ≡ fault
EndsAtHostLine (Ok None) old why = ⊥
EndsAtHostLine (Ok (Some (Closes text))) old why = why ≡ NoMemory
EndsAtHostLine (Ok (Some (Touches it))) old why = EndsHostReplay old.replay it.0 it.1 why
