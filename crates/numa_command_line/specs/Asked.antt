-- What a command line asks for, by its words alone.
use Rattle.std.specs.Prelude.{◌≡◌, ◌≢◌, ◌⊎◌, ◌&&◌, ⊤, ℕ, Bool, true, false, List, []}
use Rattle.std.specs.Prelude.{Option, Some}
use Rattle.std.specs.Prelude.{None, Result, MatchResult, length, nat_lt}
use Rattle.std.specs.Prelude.{codes, is_some, option_and_then, option_map, slice_get}
use Rattle.std.specs.Prelude.{if◌then◌else◌}
use Rattle.std.specs.Str.{bytes_eq}
use Rattle.clap.specs.Words.{App, IsAmong, Row, fault_of, kind_of, subcommand_of}
use Rattle.clap.specs.declared.error.Error.{Error}
use Rattle.clap.specs.declared.error.kind.ErrorKind.{ErrorKind}
use Rattle.clap.specs.declared.error.kind.ErrorKind.TheVariants as kind
use Rattle.numa_sheets.specs.declared.asked.AddressAsked.{AddressAsked}
use Rattle.numa_sheets.specs.declared.asked.FreePages.{FreePages}
use Rattle.numa_sheets.specs.declared.format.Format.{Format}
use Rattle.numa_sheets.specs.declared.format.Format.TheVariants.{Svg, Html}
use Rattle.numa_sheets.specs.declared.format.Format.TheVariants as format
use Rattle.numa_sheets.specs.declared.asked.CpuAsked.{CpuAsked}
use Rattle.numa_sheets.specs.declared.asked.CpuAsked.TheVariants.{Node, Each}
use Rattle.numa_sheets.specs.declared.asked.TouchAsked.{TouchAsked}
use Rattle.numa_command_line.specs.Grammar.{IsProgram}
use Rattle.numa_command_line.specs.Jobs.{Asking, Doing, Doings, Text, ask, check, diff, doings_of}
use Rattle.numa_command_line.specs.Jobs.{expect, explain, moves, predict, replay, report, run}
use Rattle.numa_command_line.specs.Jobs.{scripts, shell, storm}
use Rattle.numa_command_line.specs.Values.{address_in, format_in, frees_in, is_on, one_touch_in}
use Rattle.numa_command_line.specs.Values.{process_in, rules_in, small_at, texts_at, touch_in}
use Rattle.numa_command_line.specs.Values.{workers_in}
use Rattle.numa_command_line.specs.declared.command.Subcommand.{Subcommand}
use Rattle.numa_command_line.specs.declared.command.Subcommand.TheVariants as word
use Rattle.numa_command_line.specs.declared.jobs.Job.{Job}
use Rattle.numa_command_line.specs.declared.jobs.JobFault.{JobFault}
use Rattle.numa_command_line.specs.declared.jobs.JobFault.TheVariants.{Help, Usage, NoMemory}

-- the word that does something with scripts, of this name
abbrev pub word_named : Text → Option Subcommand
word_named name =
    if bytes_eq name (codes "run") then Some word.Run
    else if bytes_eq name (codes "check") then Some word.Check
    else if bytes_eq name (codes "expect") then Some word.Expect
    else if bytes_eq name (codes "predict") then Some word.Predict
    else if bytes_eq name (codes "diff") then Some word.Diff
    else if bytes_eq name (codes "moves") then Some word.Moves
    else if bytes_eq name (codes "explain") then Some word.Explain
    else if bytes_eq name (codes "report") then Some word.Report
    else if bytes_eq name (codes "replay") then Some word.Replay
    else if bytes_eq name (codes "shell") then Some word.Shell
    else None

-- text and JSON
abbrev pub is_plain : Format → Bool
is_plain format.Text = true
is_plain format.Json = true
is_plain other = false

abbrev pub is_plainly_asked : Asking → Bool
is_plainly_asked (predict at format free) = is_plain format
is_plainly_asked (diff at lines format) = is_plain format
is_plainly_asked (explain at address pages format) = is_plain format
is_plainly_asked (report lines) = false

-- what is asked of each node is told as text or JSON
abbrev pub can_ask_on : CpuAsked → Asking → Bool
can_ask_on (Node node) what = true
can_ask_on Each what = is_plainly_asked what

abbrev pub can_ask : TouchAsked → Asking → Bool
can_ask touch what = can_ask_on touch.cpu what

-- a question of where a task touches pages
abbrev pub ask_by : Bool → Bool → Asking → TouchAsked → Option Doing
ask_by lenient names what touch =
    if can_ask touch what then Some (ask touch what lenient names) else None

abbrev pub asked_in : List Row → Option Asking → Option Doing
asked_in rows question = option_and_then (λ what. option_and_then
    (ask_by (is_on (codes "lenient") rows) (is_on (codes "names") rows) what) (touch_in rows))
    question

-- pictures and pages
abbrev pub is_drawn : Format → Bool
is_drawn (Svg number) = true
is_drawn (Html number) = true
is_drawn other = false

abbrev pub is_page : Format → Bool
is_page (Html number) = true
is_page other = false

-- the files that state where pages lie; none may be named where they are barred
abbrev pub stated_unless : Bool → List Text → Option (List Text)
stated_unless barred at = if nat_lt 0 (length at) && barred then None else Some at

-- a prediction, where pages that are there stay where a file states them: no page
abbrev pub predict_by : List Text → Format → List FreePages → Option Asking
predict_by at format free =
    option_map (λ stated. predict stated format free) (stated_unless (is_page format) at)

-- a difference, with what becomes of pages that are there where a file states them: no drawn one
abbrev pub diff_by : List Text → List Text → Format → Option Asking
diff_by at lines format =
    option_map (λ stated. diff stated lines format) (stated_unless (is_drawn format) at)

-- an explanation, of one page where a file states where pages lie that are there, or as a picture
abbrev pub explain_by : List Text → Option ℕ → Format → AddressAsked → Option Asking
explain_by at pages format address =
    if nat_lt 0 (length at) && is_some pages then None
    else if is_some pages && is_drawn format then None
    else Some (explain at address pages format)

-- what a word asks to be done with scripts, by what the parse found of its arguments
abbrev pub work_asked : Subcommand → List Row → Option Doing
work_asked word.Run rows = Some (run (is_on (codes "echo") rows) (format_in rows))
work_asked word.Check rows = Some (check (format_in rows))
work_asked word.Expect rows = Some (expect (format_in rows) (is_on (codes "ignore-versions") rows)
    (is_on (codes "update") rows))
work_asked word.Predict rows = asked_in rows
    (option_and_then (predict_by (texts_at (codes "at") rows) (format_in rows)) (frees_in rows))
work_asked word.Diff rows = asked_in rows
    (diff_by (texts_at (codes "at") rows) (texts_at (codes "then") rows) (format_in rows))
work_asked word.Moves rows = option_map (λ free. moves (texts_at (codes "at") rows)
    (texts_at (codes "then") rows) (one_touch_in rows) free (format_in rows)
    (is_on (codes "lenient") rows) (is_on (codes "names") rows)) (frees_in rows)
work_asked word.Explain rows = asked_in rows (option_and_then (explain_by
    (texts_at (codes "at") rows) (small_at (codes "pages") rows) (format_in rows))
    (address_in rows))
work_asked word.Report rows = asked_in rows (Some (report (texts_at (codes "then") rows)))
work_asked word.Replay rows = option_map (λ free. replay (texts_at (codes "trace") rows) free
    (format_in rows) (is_on (codes "mean") rows) (is_on (codes "ranges") rows)
    (is_on (codes "lenient") rows)) (frees_in rows)
work_asked word.Shell rows = Some shell

abbrev pub scripts_asked : List Row → Subcommand → Option Doings
scripts_asked rows word =
    option_and_then (λ process. option_map (scripts (texts_at (codes "FILE") rows) (rules_in rows)
    process) (work_asked word rows)) (process_in rows)

-- what the word of a name asks for
abbrev pub job_named : Text → List Row → Option Doings
job_named name rows =
    if bytes_eq name (codes "storm") then option_map storm (workers_in rows)
    else option_and_then (scripts_asked rows) (word_named name)

-- what the parse found after the subcommand of this name
abbrev pub rows_behind : Text → Option (Text × List Row) → Option (List Row)
rows_behind name None = None
rows_behind name (Some p) = if bytes_eq p.0 name then Some p.1 else None

-- the same, if the word after the program's name names it
abbrev pub doings_found : List Text → Option (Text × List Row) → Option Doings
doings_found words found = option_and_then
    (λ name. option_and_then (job_named name) (rows_behind name found)) (slice_get words 1)

-- the word after the program's name says what is asked for, and the parse of the words after it
-- says with which values
abbrev pub doings_asked : App → List Text → Option Doings
doings_asked program words = doings_found words (subcommand_of program words)

-- the name of the word that asks for this
abbrev pub asking_name : Asking → Text
asking_name (predict at format free) = codes "predict"
asking_name (diff at lines format) = codes "diff"
asking_name (explain at address pages format) = codes "explain"
asking_name (report lines) = codes "report"

abbrev pub doing_name : Doing → Text
doing_name (run echo format) = codes "run"
doing_name (check format) = codes "check"
doing_name (expect format any_version update) = codes "expect"
doing_name (ask touch what lenient names) = asking_name what
doing_name (moves at lines touch free format lenient names) = codes "moves"
doing_name (replay trace free format mean ranges lenient) = codes "replay"
doing_name shell = codes "shell"

abbrev pub name_of : Doings → Text
name_of (scripts files rules process what) = doing_name what
name_of (storm workers) = codes "storm"

-- help, or the version
abbrev pub IsShown : ErrorKind → Type 0
IsShown what = (what ≡ kind.DisplayHelp) ⊎ (what ≡ kind.DisplayVersion)

-- the result of an error
abbrev pub IsTold : Error → JobFault → Type 0
IsTold error (Help text) = IsShown (kind_of error)
IsTold error (Usage text) = (kind_of error ≢ kind.OutOfMemory) × (IsShown (kind_of error) → ⊥)
IsTold error NoMemory = ⊤

-- there is no job: help is asked for; or the words are refused, or ask for nothing that there is;
-- or memory lacks
abbrev pub HasNoJob : App → List Text → JobFault → Type 0
HasNoJob program words (Help text) =
    (what : ErrorKind) × IsAmong what (fault_of program words) × IsShown what
HasNoJob program words (Usage text) =
    ((what : ErrorKind) × IsAmong what (fault_of program words) × (IsShown what → ⊥))
    ⊎ ((fault_of program words ≡ []) × (doings_asked program words ≡ None))
HasNoJob program words NoMemory = ⊤

-- the job is what the words ask for, and is given where the parse refuses none of them
abbrev pub IsJobOf : App → List Text → Result Job JobFault → Type 0
IsJobOf program words answer = MatchResult answer
    (λ job. (fault_of program words ≡ []) × (doings_asked program words ≡ Some (doings_of job)))
    (HasNoJob program words)

-- the same, for the program's own words
abbrev pub Answers : List Text → Result Job JobFault → Type 0
Answers words answer = (program : App) × IsProgram program × IsJobOf program words answer
