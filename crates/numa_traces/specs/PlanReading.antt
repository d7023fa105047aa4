-- Lines of a trace of one space, or of one process of a host, and their replay.
use Rattle.std.specs.Prelude.{◌≡◌, ◌==◌, ◌++◌, ⊤, ℕ, Bool, List, [], ◌∷◌, Option, None, Some}
use Rattle.std.specs.Prelude.{Result, Ok, Err, if◌then◌else◌}
use Rattle.numa_plan.specs.Meaning.{PlanData, place_refusal}
use Rattle.numa_traces.specs.Accesses.{access_of, mark_of}
use Rattle.numa_traces.specs.Phases.{Closes, IsTrace, Step, Touches, accesses_in}
use Rattle.numa_traces.specs.Placing.{Frames}
use Rattle.numa_traces.specs.Ranging.{AreRanged, AreSameRanges, EndsCounted, HasNone, Ranged}
use Rattle.numa_traces.specs.Resting.{found, lies_where}
use Rattle.numa_traces.specs.Tallies.{Counts}
use Rattle.numa_traces.specs.declared.access.Access.{Access}
use Rattle.numa_traces.specs.declared.access.TraceLine.{TraceLine}
use Rattle.numa_traces.specs.declared.before.Before.{Before}
use Rattle.numa_traces.specs.declared.fault.AccessError.{AccessError}
use Rattle.numa_traces.specs.declared.fault.ReplayError.{ReplayError}
use Rattle.numa_traces.specs.declared.fault.ReplayError.TheVariants.{Malformed, Named, NoMemory}
use Rattle.numa_traces.specs.declared.plan_reading.PlanReplay.{PlanReplay}
use Rattle.numa_traces.specs.declared.trace_state.TraceState.{TraceState}
use Rattle.numa_traces.specs.declared.trace_state.TraceStep.{TraceStep}
use Rattle.numa_traces.specs.declared.trace_state.TraceStep.TheVariants as step

-- ---- what a line says

-- an access for the replay of one space, or of the process of a host that has this number: what
-- other processes do is left out
abbrev pub access_for : Option ℕ → Option ℕ → Access → Result (Option Access) ReplayError
access_for own None access = Ok (Some access)
access_for None (Some process) access = Err Named
access_for (Some own) (Some process) access = Ok (if own == process then Some access else None)

-- the access that a line has for it
abbrev pub said_for : Option ℕ → Result (Option TraceLine) AccessError
    → Result (Option Access) ReplayError
said_for own (Err fault) = Err (Malformed fault)
said_for own (Ok None) = Ok None
said_for own (Ok (Some line)) = access_for own line.process line.access

-- the step that an access is, if there is one
abbrev pub touch_of : Result (Option Access) ReplayError → Result (Option (Step Access)) ReplayError
touch_of (Err fault) = Err fault
touch_of (Ok None) = Ok None
touch_of (Ok (Some access)) = Ok (Some (Touches access))

-- a mark, or else an access
abbrev pub step_by : Option (List ℕ) → Option ℕ → List ℕ → Result (Option (Step Access)) ReplayError
step_by (Some text) own line = Ok (Some (Closes text))
step_by None own line = touch_of (said_for own (access_of line))

-- the step that a line is for it
abbrev pub step_of : Option ℕ → List ℕ → Result (Option (Step Access)) ReplayError
step_of own line = step_by (mark_of line) own line

-- a step of the trace, as it is read
abbrev pub step_said : TraceStep → Step Access
step_said (step.Touches access) = Touches access
step_said (step.Closes text) = Closes text.now

abbrev pub step_told : Result (Option TraceStep) ReplayError
    → Result (Option (Step Access)) ReplayError
step_told (Err fault) = Err fault
step_told (Ok None) = Ok None
step_told (Ok (Some said)) = Ok (Some (step_said said))

-- ---- what a line does, by a plan, over pages that lie where `there` says before the trace

-- steps were replayed, which met what a state has met
pub record HasMet (plan : PlanData) (there : ℕ → Option ℕ) (start : Frames)
    (steps : List (Step Access)) (at : TraceState) : Type 0 where
  pub trace : IsTrace plan there start steps at.replay at.marks.items
  pub ranges : AreRanged plan there start (accesses_in steps) at.ranges

-- before the first line, for this process: no page is placed by an access, and nodes have so much
-- room; it counts by these ranges, if by any
pub record IsBegun (own : Option ℕ) (room : List ℕ) (by : Option Ranged) (begun : TraceState)
    : Type 0 where
  pub process : begun.process ≡ own
  pub ranges : begun.ranges ≡ by
  pub met : HasNone by → (plan : PlanData) (there : ℕ → Option ℕ)
      → HasMet plan there (record { pages = []; free = room }) [] begun

-- the process and the ranges stay the same
pub record IsSame (old new : TraceState) : Type 0 where
  pub process : new.process ≡ old.process
  pub ranges : AreSameRanges old.ranges new.ranges

-- accesses were counted that went to a page on this node, or found none
pub record CountsAccess (access : Access) (node : Option ℕ) (is_fault : Bool)
    (old new : TraceState) : Type 0 where
  pub same : new ≡ record old { replay = new.replay }
  pub frames : new.replay.frames ≡ old.replay.frames
  pub counts : Counts old.replay.tallies (access.task, access.cpu, node) access.count is_fault
      new.replay.tallies

-- a mark was made of what was counted so far
pub record ClosesPhase (text : List ℕ) (old new : TraceState) : Type 0 where
  pub same : new ≡ record old { marks = new.marks }
  pub marks : new.marks.items ≡ old.marks.items
      ++ (record { text = text; tallies = old.replay.tallies } ∷ [])

-- the plan doesn't refuse a step
abbrev pub Allows : PlanData → Step Access → Type 0
Allows plan (Touches access) = place_refusal plan access.page access.cpu ≡ None
Allows plan (Closes text) = ⊤

-- a line with this step was replayed; where it has none, nothing has changed
abbrev pub ReplaysStep : PlanData → (ℕ → Option ℕ) → Result (Option (Step Access)) ReplayError
    → TraceState → TraceState → Type 0
ReplaysStep plan there (Err why) old new = ⊥
ReplaysStep plan there (Ok None) old new = new ≡ old
ReplaysStep plan there (Ok (Some step)) old new = IsSame old new × Allows plan step
    × ((start : Frames) (steps : List (Step Access)) → HasMet plan there start steps old
    → HasMet plan there start (step ∷ steps) new)

-- why a line with this step can't be replayed
abbrev pub EndsAtStep : PlanData → (ℕ → Option ℕ) → Result (Option (Step Access)) ReplayError
    → TraceState → ReplayError → Type 0
EndsAtStep plan there (Err fault) old why = why ≡ fault
EndsAtStep plan there (Ok None) old why = ⊥
EndsAtStep plan there (Ok (Some (Closes text))) old why = why ≡ NoMemory
EndsAtStep plan there (Ok (Some (Touches access))) old why =
    EndsCounted plan (found there old.replay access.page) old.ranges access why

-- ---- where the plan and the pages before are kept

-- before the first line, by this plan, with these pages before
pub record IsReading (rule : PlanData) (there : Option Before) (own : Option ℕ) (room : List ℕ)
    (by : Option Ranged) (begun : PlanReplay) : Type 0 where
  pub plan : begun.plan.now ≡ rule
  pub before : begun.before ≡ there
  pub state : IsBegun own room by begun.state

-- a line with this step was replayed, by the same plan over the same pages
pub record ReplaysLine (step : Result (Option (Step Access)) ReplayError) (old new : PlanReplay)
    : Type 0 where
  pub plan : new.plan.now ≡ old.plan.now
  pub before : new.before ≡ old.before
  pub state : ReplaysStep old.plan.now (lies_where old.before) step old.state new.state

abbrev pub EndsAtLine : Result (Option (Step Access)) ReplayError → PlanReplay → ReplayError
    → Type 0
EndsAtLine step old = EndsAtStep old.plan.now (lies_where old.before) step old.state
