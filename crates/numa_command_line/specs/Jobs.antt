-- What jobs there are, and what each does, wherever its texts lie.
use Rattle.std.specs.Prelude.{⊤, ◌<◌, ◌≤◌, ◌≡◌, ℕ, List, Bool, Option, Some, None, Result, map}
use Rattle.std.specs.Prelude.{Ok, Err}
use Rattle.std.specs.String.{string_bytes}
use Rattle.numa_machine.specs.declared.rules.Rules.{Rules}
use Rattle.numa_sheets.specs.declared.asked.FreePages.{FreePages}
use Rattle.numa_sheets.specs.declared.format.Format.{Format}
use Rattle.numa_sheets.specs.declared.asked.AddressAsked.{AddressAsked}
use Rattle.numa_sheets.specs.declared.asked.TouchAsked.{TouchAsked}
use Rattle.numa_command_line.specs.declared.jobs.Job.{Job}
use Rattle.numa_command_line.specs.declared.jobs.Job.TheVariants.{Scripts, Storm}
use Rattle.numa_command_line.specs.declared.jobs.JobFault.{JobFault}
use Rattle.numa_command_line.specs.declared.jobs.JobFault.TheVariants.{Help, Usage, NoMemory}
use Rattle.numa_command_line.specs.declared.jobs.PageQuestion.{PageQuestion}
use Rattle.numa_command_line.specs.declared.jobs.PageQuestion.TheVariants.{Predict, Diff, Explain}
use Rattle.numa_command_line.specs.declared.jobs.PageQuestion.TheVariants.{Report}
use Rattle.numa_command_line.specs.declared.jobs.ScriptJob.{ScriptJob}
use Rattle.numa_command_line.specs.declared.jobs.ScriptJob.TheVariants.{Run, Check, Expect, Ask}
use Rattle.numa_command_line.specs.declared.jobs.ScriptJob.TheVariants.{Moves, Replay, Shell}

-- a storm is of as many workers as a crew may have
abbrev pub CanBeDone : Job → Type 0
CanBeDone (Storm workers) = (0 < workers) × (workers ≤ 16)
CanBeDone job = ⊤

-- ---- what is asked for

abbrev pub Text : Type 0
Text = List ℕ

pub data Asking : Type 0 where
  predict : List Text → Format → List FreePages → Asking
  diff : List Text → List Text → Format → Asking
  explain : List Text → AddressAsked → Option ℕ → Format → Asking
  report : List Text → Asking

-- with the rules that count where the scripts say nothing of them
pub data Doing : Type 0 where
  run : Bool → Format → Doing
  check : Format → Doing
  expect : Format → Bool → Bool → Doing
  ask : TouchAsked → Asking → Bool → Bool → Doing
  moves : List Text → List Text → Option TouchAsked → List FreePages → Format → Bool → Bool → Doing
  replay : List Text → List FreePages → Format → Bool → Bool → Bool → Doing
  shell : Doing

pub data Doings : Type 0 where
  scripts : List Text → Rules → Option ℕ → Doing → Doings
  storm : ℕ → Doings

abbrev pub question_of : PageQuestion → Asking
question_of (Predict at format free) = predict (map string_bytes at.items) format free.items
question_of (Diff at lines format) =
    diff (map string_bytes at.items) (map string_bytes lines.items) format
question_of (Explain at address pages format) =
    explain (map string_bytes at.items) address pages format
question_of (Report lines) = report (map string_bytes lines.items)

abbrev pub work_of : ScriptJob → Doing
work_of (Run echo format) = run echo format
work_of (Check format) = check format
work_of (Expect format any_version update) = expect format any_version update
work_of (Ask asked question lenient names) = ask asked (question_of question) lenient names
work_of (Moves at lines asked free format lenient names) =
    moves (map string_bytes at.items) (map string_bytes lines.items) asked free.items format lenient
    names
work_of (Replay trace free format mean ranges lenient) =
    replay (map string_bytes trace.items) free.items format mean ranges lenient
work_of Shell = shell

abbrev pub doings_of : Job → Doings
doings_of (Scripts files rules process work) =
    scripts (map string_bytes files.items) rules process (work_of work)
doings_of (Storm workers) = storm workers

-- what is wanted is made, or is refused as invalid if nothing is wanted, or memory ran out
abbrev pub IsMade : {X Y : Type 0} → (X → Y) → Option Y → Result X JobFault → Type 0
IsMade seen wanted (Ok made) = wanted ≡ Some (seen made)
IsMade seen wanted (Err (Usage text)) = wanted ≡ None
IsMade seen wanted (Err (Help text)) = ⊥
IsMade seen wanted (Err NoMemory) = ⊤

-- the words are told to be faulty, or memory lacks
abbrev pub IsRefusal : JobFault → Type 0
IsRefusal (Help text) = ⊥
IsRefusal fault = ⊤
