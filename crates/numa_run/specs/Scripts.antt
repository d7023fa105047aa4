-- Which states a running script stands for, and what it replies.
use Rattle.std.specs.Prelude.{◌≡◌, ◌↔◌, ℕ, Bool, List, Option, Some, None, IsSome, IsSomeAnd}
use Rattle.std.specs.Prelude.{IsTrue, Ok}
use Rattle.numa_lines.specs.Written.{Said}
use Rattle.numa_lines.specs.declared.watched.Watched.{Watched}
use Rattle.numa_machine.specs.Machine.{Hardware}
use Rattle.numa_maps.specs.Residents.{Kept}
use Rattle.numa_page_state.specs.Outcomes.{Lack}
use Rattle.numa_script.specs.Replies.{LacksMemory, fault_in}
use Rattle.numa_script.specs.declared.line.Line.{Line}
use Rattle.numa_script.specs.declared.line.Line.TheVariants as line
use Rattle.numa_script.specs.declared.page_line.PageLine.TheVariants as page
use Rattle.numa_run.specs.HugeLines.{pools_answer}
use Rattle.numa_run.specs.Judged.{asked_fault, fault_of, fault_or}
use Rattle.numa_run.specs.PageLines.{arrived_text}
use Rattle.numa_run.specs.Replies.{Answer, Replied, Shown, bytes_of, outcome_of, reply_in}
pub use Rattle.numa_run.specs.Standing.{IsCoreIn}
use Rattle.numa_run.specs.Answers.{reply_of, after}
use Rattle.numa_run.specs.Standing.{Stands}
use Rattle.numa_run.specs.States.{State}
use Rattle.numa_script.specs.declared.reply.Reply.{Reply}
use Rattle.numa_script.specs.declared.reply.Reply.TheVariants as reply
use Rattle.numa_run.specs.declared.running.Taken.{Taken}
use Rattle.numa_run.specs.declared.running.Taken.TheVariants as taken
use Rattle.numa_run.specs.declared.script.Script.{Script}

-- the script stands for the state that its lines so far have led to: its machine is ready where the
-- state's is, and stands for it; else its limits, its rules and its nodes with CPUs are the state's
abbrev pub ScriptStandsFor : Script → State → Type 0
ScriptStandsFor script state = Stands script.settings script.running state

-- the pages that are placed on the machine that is ready in the state
abbrev pub IsResidentIn : Kept → State → Type 0
IsResidentIn kept state = IsSome state.machine × (kept ≡ state.resident)

-- the line has the reply that the definition says, or none where it says none, and the state that
-- it says is reached
abbrev pub ScriptReplies : Script → Line → Option Reply → Script → Type 0
ScriptReplies old said answer new =
    (state : State) → ScriptStandsFor old state
    → (lack : Lack) × (answer ≡ reply_of lack state said)
    × ScriptStandsFor new (after lack state said)

-- the fault or the refusal that the definition says is given, or none where it says none, and the
-- state that it says is reached
abbrev pub ScriptJudges : Script → Line → Option Reply → Script → Type 0
ScriptJudges old said fault new =
    (state : State) → ScriptStandsFor old state
    → (lack : Lack) × (fault ≡ fault_of lack state said)
    × ScriptStandsFor new (after lack state said)

-- ---- a line that is taken, and then answered or judged

-- what pages that were touched did, once a machine is ready
abbrev pub arrived_on : Option Hardware → State → Answer
arrived_on None state = Replied reply.BadState
arrived_on (Some machine) state = Shown (arrived_text state)

abbrev pub arrived_answer : State → Answer
arrived_answer state = arrived_on state.machine state

-- what was taken is the reply that the definition says, or, where it says none, the line itself; of
-- `populate` it is the answer, which the state after it tells
abbrev pub IsTaken : Lack → State → Line → Taken → Type 0
IsTaken lack state said (taken.Reply answer) = Some answer ≡ reply_of lack state said
IsTaken lack state said (taken.Question asked) =
    (None ≡ reply_of lack state said) × (said ≡ line.Question asked)
IsTaken lack state said (taken.Maps task) =
    (None ≡ reply_of lack state said) × (said ≡ line.Maps task)
IsTaken lack state said taken.Moved =
    (None ≡ reply_of lack state said) × (said ≡ line.Pages (Ok page.Moved))
IsTaken lack state said taken.Rooms =
    (None ≡ reply_of lack state said) × (said ≡ line.Pages (Ok page.Rooms))
IsTaken lack state said taken.Arrived =
    (None ≡ reply_of lack state said)
    × (arrived_answer (after lack state said) ≡ (outcome_of lack state said).answer)
    × (None ≡ asked_fault lack state said)
IsTaken lack state said taken.Pools =
    (None ≡ reply_of lack state said)
    × (pools_answer (after lack state said) ≡ (outcome_of lack state said).answer)
    × (None ≡ asked_fault lack state said)

-- the line was carried out, and the state that the definition says is reached
abbrev pub ScriptTakes : Script → Line → Taken → Script → Type 0
ScriptTakes old said found new =
    (state : State) → ScriptStandsFor old state
    → (lack : Lack) × IsTaken lack state said found
    × ScriptStandsFor new (after lack state said)

-- the answer of what was taken, and its fault or refusal
abbrev pub answer_left : Lack → State → Taken → Answer
answer_left lack state (taken.Reply answer) = Replied answer
answer_left lack state (taken.Question asked) =
    (outcome_of lack state (line.Question asked)).answer
answer_left lack state (taken.Maps task) = (outcome_of lack state (line.Maps task)).answer
answer_left lack state taken.Moved =
    (outcome_of lack state (line.Pages (Ok page.Moved))).answer
answer_left lack state taken.Rooms =
    (outcome_of lack state (line.Pages (Ok page.Rooms))).answer
answer_left lack state taken.Arrived = arrived_answer state
answer_left lack state taken.Pools = pools_answer state

abbrev pub fault_left : Lack → State → Taken → Option Reply
fault_left lack state (taken.Reply answer) = fault_in answer
fault_left lack state (taken.Question asked) = fault_of lack state (line.Question asked)
fault_left lack state (taken.Maps task) = fault_of lack state (line.Maps task)
fault_left lack state taken.Moved = fault_of lack state (line.Pages (Ok page.Moved))
fault_left lack state taken.Rooms = fault_of lack state (line.Pages (Ok page.Rooms))
fault_left lack state taken.Arrived = fault_or (reply_in (arrived_answer state)) None
fault_left lack state taken.Pools = fault_or (reply_in (pools_answer state)) None

-- the answer was said, and nothing else changed; and whether it tells lack of memory
abbrev pub ScriptWrites : {W : Type 0} → (W → Option (List ℕ)) → Script → Watched W → Taken → Bool
    → Script → Watched W → Type 0
ScriptWrites contents old output found starved new output_then =
    (state : State) → ScriptStandsFor old state → (lack : Lack) × ScriptStandsFor new state
    × Said contents output output_then (bytes_of (answer_left lack state found))
    × (IsTrue starved ↔ IsSomeAnd (fault_left lack state found) LacksMemory)

-- the fault or the refusal was told, and nothing changed
abbrev pub ScriptTells : Script → Taken → Option Reply → Script → Type 0
ScriptTells old found fault new =
    (state : State) → ScriptStandsFor old state
    → (lack : Lack) × (fault ≡ fault_left lack state found) × ScriptStandsFor new state
