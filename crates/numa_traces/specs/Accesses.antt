-- What a line of a trace says: `TASK ADDRESS CPU [COUNT]`, and `in P` before it; or `mark TEXT`.
use Rattle.std.specs.Prelude.{ℕ, List, [], ◌∷◌, Option, Some, None, Result, Ok, Err}
use Rattle.std.specs.Prelude.{if◌then◌else◌, codes, drop, take}
use Rattle.std.specs.Str.{bytes_eq}
use Rattle.numa_script.specs.Lines.{is_silent}
use Rattle.numa_script.specs.Numbers.{page_of, small_of}
use Rattle.numa_script.specs.Parts.{words_of}
use Rattle.numa_traces.specs.declared.access.Access.{Access}
use Rattle.numa_traces.specs.declared.access.TraceLine.{TraceLine}
use Rattle.numa_traces.specs.declared.fault.AccessError.{AccessError}
use Rattle.numa_traces.specs.declared.fault.AccessError.TheVariants as fault

-- The access by its four numbers, or the first of them that is none.

abbrev pub with_count : ℕ → ℕ → ℕ → Option ℕ → Result Access AccessError
with_count task page cpu None = Err fault.BadCount
with_count task page cpu (Some count) =
    Ok (record { task = task; page = page; cpu = cpu; count = count })

abbrev pub with_cpu : ℕ → ℕ → Option ℕ → Option ℕ → Result Access AccessError
with_cpu task page None count = Err fault.BadCpu
with_cpu task page (Some cpu) count = with_count task page cpu count

abbrev pub with_page : ℕ → Option ℕ → Option ℕ → Option ℕ → Result Access AccessError
with_page task None cpu count = Err fault.BadAddress
with_page task (Some page) cpu count = with_cpu task page cpu count

abbrev pub with_task : Option ℕ → Option ℕ → Option ℕ → Option ℕ → Result Access AccessError
with_task None page cpu count = Err fault.BadTask
with_task (Some task) page cpu count = with_page task page cpu count

-- the access of three words or four; without COUNT it is one
abbrev pub access_by : List (List ℕ) → Result Access AccessError
access_by (task ∷ address ∷ cpu ∷ []) =
    with_task (small_of task) (page_of address) (small_of cpu) (Some 1)
access_by (task ∷ address ∷ cpu ∷ count ∷ []) =
    with_task (small_of task) (page_of address) (small_of cpu) (small_of count)
access_by words = Err fault.WordCount

-- an access of this process, or of none that is named
abbrev pub line_with : Option ℕ → Result Access AccessError → Result TraceLine AccessError
line_with process (Ok access) = Ok (record { process = process; access = access })
line_with process (Err why) = Err why

-- words whose first is the process
abbrev pub with_process : Option ℕ → List (List ℕ) → Result TraceLine AccessError
with_process None words = Err fault.BadProcess
with_process (Some process) words = line_with (Some process) (access_by words)

abbrev pub named_by : List (List ℕ) → Result TraceLine AccessError
named_by [] = Err fault.WordCount
named_by (process ∷ words) = with_process (small_of process) words

-- what stands behind `in `, where a line begins so
abbrev pub behind_in : List ℕ → Option (List ℕ)
behind_in line = if bytes_eq (take 3 line) (codes "in ") then Some (drop 3 line) else None

abbrev pub by_name : Option (List ℕ) → List ℕ → Result TraceLine AccessError
by_name None line = line_with None (access_by (words_of line))
by_name (Some rest) line = named_by (words_of rest)

-- a text, if it has a byte
abbrev pub any_text : List ℕ → Option (List ℕ)
any_text [] = None
any_text (byte ∷ rest) = Some (byte ∷ rest)

-- what stands behind `do `, where a line begins so and something does
abbrev pub do_of : List ℕ → Option (List ℕ)
do_of line = if bytes_eq (take 3 line) (codes "do ") then any_text (drop 3 line) else None

-- what a line says that isn't silent: a line `do` is no access
abbrev pub unless_does : Option (List ℕ) → List ℕ → Result TraceLine AccessError
unless_does (Some said) line = Err fault.Does
unless_does None line = by_name (behind_in line) line

abbrev pub line_by : List ℕ → Result TraceLine AccessError
line_by line = unless_does (do_of line) line

-- something, if it is said
abbrev pub said_by : Result TraceLine AccessError → Result (Option TraceLine) AccessError
said_by (Ok said) = Ok (Some said)
said_by (Err why) = Err why

-- what a line says: nothing where it is empty or a comment
abbrev pub access_of : List ℕ → Result (Option TraceLine) AccessError
access_of line = if is_silent line then Ok None else said_by (line_by line)

-- what stands behind `mark `, where a line begins so and something does
abbrev pub mark_of : List ℕ → Option (List ℕ)
mark_of line = if bytes_eq (take 5 line) (codes "mark ") then any_text (drop 5 line) else None
