-- What a line of a script says.
use Rattle.std.specs.Prelude.{ℕ, ◌==◌, ◌&&◌, Bool, true, false, List, [], ◌∷◌, length, codes}
use Rattle.std.specs.Prelude.{nat_lt, if◌then◌else◌, Option, Some, None, Result, Ok, Err}
use Rattle.std.specs.Prelude.{unwrap_or, option_and_then}
use Rattle.std.specs.Option.{option_map}
use Rattle.std.specs.Str.{bytes_eq}
use Rattle.numa_mask.specs.Lists.{list_of}
use Rattle.numa_mask.specs.declared.list.ListFault.{ListFault}
use Rattle.numa_mode.specs.Policy.{Specification}
use Rattle.numa_mode.specs.declared.modes.Mode.TheVariants as mode
use Rattle.numa_mode.specs.declared.modes.NodeFlag.TheVariants as flag
use Rattle.numa_requests.specs.declared.command.Command.{Command}
use Rattle.numa_requests.specs.declared.command.Command.TheVariants as command
use Rattle.numa_script.specs.Parts.{words_of}
use Rattle.numa_script.specs.Words.{any_empty}
use Rattle.numa_script.specs.Present.{with_two, with_three, two_of, three_of}
use Rattle.numa_script.specs.Present.{four_of, two_words, four_words}
use Rattle.numa_script.specs.Numbers.{number_of, small_of, few_of}
use Rattle.numa_script.specs.Machines.{frames_of, distances_of, rules_of, has_kernel_orders}
use Rattle.numa_script.specs.Policies.{policy_of, waits_for_pages}
use Rattle.numa_script.specs.Workers.{publish_work, begin_work, look_work, try_work, give_work}
use Rattle.numa_script.specs.Workers.{touch_work, release_work}
use Rattle.numa_script.specs.HostLines.{attach_line, exit_line, fork_line, group_line, host_line}
use Rattle.numa_script.specs.HostLines.{group_mems_line, process_line}
pub use Rattle.numa_script.specs.HugeLines.{map_line}
use Rattle.numa_script.specs.HugeLines.{fault_line, pool_line}
use Rattle.numa_script.specs.PageLines.{at_line, memory_migrate_line, migrate_line, move_line}
use Rattle.numa_script.specs.PageLines.{moved_line, populate_line, room_line}
use Rattle.numa_script.specs.declared.policy.WordError.{WordError}
use Rattle.numa_script.specs.declared.policy.WordError.TheVariants as fault
use Rattle.numa_script.specs.declared.keyword.Keyword.{Keyword}
use Rattle.numa_script.specs.declared.keyword.Keyword.TheVariants as keyword
use Rattle.numa_script.specs.declared.line.Line.{Line}
use Rattle.numa_script.specs.declared.line.Line.TheVariants as line
use Rattle.numa_script.specs.declared.line.Question.TheVariants as question
use Rattle.numa_script.specs.declared.line.ScriptLine.{ScriptLine}
use Rattle.numa_script.specs.declared.page_line.BoundPages.{BoundPages}
use Rattle.numa_script.specs.declared.page_line.BoundPages.TheVariants as bound

-- ---- first words

-- the first word of a keyword's lines
abbrev pub first_word_of : Keyword → List ℕ
first_word_of keyword.Limits = codes "limits"
first_word_of keyword.Rules = codes "rules"
first_word_of keyword.Cpus = codes "cpus"
first_word_of keyword.Machine = codes "machine"
first_word_of keyword.Map = codes "map"
first_word_of keyword.Unmap = codes "unmap"
first_word_of keyword.Mbind = codes "mbind"
first_word_of keyword.Home = codes "home"
first_word_of keyword.Task = codes "task"
first_word_of keyword.Inherit = codes "inherit"
first_word_of keyword.Weight = codes "weight"
first_word_of keyword.Mems = codes "mems"
first_word_of keyword.Place = codes "place"
first_word_of keyword.Span = codes "span"
first_word_of keyword.Counts = codes "counts"
first_word_of keyword.Ranges = codes "ranges"
first_word_of keyword.Maps = codes "maps"
first_word_of keyword.Publish = codes "publish"
first_word_of keyword.Begin = codes "begin"
first_word_of keyword.Look = codes "look"
first_word_of keyword.Try = codes "try"
first_word_of keyword.Give = codes "give"
first_word_of keyword.Touch = codes "touch"
first_word_of keyword.Release = codes "release"
first_word_of keyword.At = codes "at"
first_word_of keyword.Room = codes "room"
first_word_of keyword.MemoryMigrate = codes "memory-migrate"
first_word_of keyword.Migrate = codes "migrate"
first_word_of keyword.Move = codes "move"
first_word_of keyword.Moved = codes "moved"
first_word_of keyword.Populate = codes "populate"
first_word_of keyword.Pool = codes "pool"
first_word_of keyword.Fault = codes "fault"
first_word_of keyword.Host = codes "host"
first_word_of keyword.Group = codes "cgroup"
first_word_of keyword.GroupMems = codes "cgroup-mems"
first_word_of keyword.Process = codes "process"
first_word_of keyword.Exit = codes "exit"
first_word_of keyword.Attach = codes "attach"
first_word_of keyword.Fork = codes "fork"
first_word_of keyword.In = codes "in"

-- those of four letters that come less often
abbrev pub later_of_four : List Keyword
later_of_four =
    keyword.Exit ∷ keyword.Fork ∷ keyword.Move ∷ keyword.Room ∷ keyword.Host ∷ keyword.Pool ∷ []

-- the keywords whose names have this many letters
abbrev pub keywords_of : ℕ → List Keyword
keywords_of letters =
    if letters == 2 then keyword.In ∷ keyword.At ∷ []
    else if letters == 3 then keyword.Try ∷ keyword.Map ∷ []
    else if letters == 4 then
    keyword.Span ∷ keyword.Look ∷ keyword.Give ∷ keyword.Maps ∷ keyword.Home ∷ keyword.Task
    ∷ keyword.Mems ∷ keyword.Cpus ∷ later_of_four
    else if letters == 5 then
    keyword.Place ∷ keyword.Begin ∷ keyword.Touch ∷ keyword.Mbind ∷ keyword.Unmap
    ∷ keyword.Rules ∷ keyword.Moved ∷ keyword.Fault ∷ []
    else if letters == 6 then
    keyword.Counts ∷ keyword.Ranges ∷ keyword.Weight ∷ keyword.Limits ∷ keyword.Attach
    ∷ keyword.Group ∷ []
    else if letters == 7 then
    keyword.Publish ∷ keyword.Release ∷ keyword.Machine ∷ keyword.Inherit ∷ keyword.Process
    ∷ keyword.Migrate ∷ []
    else if letters == 8 then keyword.Populate ∷ []
    else if letters == 11 then keyword.GroupMems ∷ []
    else if letters == 14 then keyword.MemoryMigrate ∷ []
    else []

-- the first of the keywords whose first word this is
abbrev pub keyword_among : List Keyword → List ℕ → Option Keyword
keyword_among [] word = None
keyword_among (k ∷ ks) word =
    if bytes_eq word (first_word_of k) then Some k else keyword_among ks word

-- what a first word asks for
unfoldable pub keyword_of : List ℕ → Option Keyword
keyword_of first = keyword_among (keywords_of (length first)) first

-- ---- the words after the first

-- a command that needs a policy, or a list of nodes
abbrev pub with_policy : (Specification → Command) → Result Specification WordError → Line
with_policy f (Ok spec) = line.Command (Ok (f spec))
with_policy f (Err wrong) = line.Command (Err wrong)

abbrev pub with_nodes : (ℕ → Command) → Result ℕ ListFault → Line
with_nodes f (Ok mask) = line.Command (Ok (f mask))
with_nodes f (Err wrong) = line.Command (Err (fault.List wrong))

-- limits R T C
abbrev pub limits_line : List (List ℕ) → Option Line
limits_line words =
    option_map (λ v. line.Limits v.0 v.1 v.2) (three_of small_of small_of small_of words)

-- rules RULES
abbrev pub rules_line : List (List ℕ) → Option Line
rules_line (word ∷ []) = option_map line.Rules (rules_of word)
rules_line _ = None

-- cpus LIST
abbrev pub cpus_line : List (List ℕ) → Option Line
cpus_line (nodes ∷ []) = Some (line.Cpus (list_of nodes))
cpus_line _ = None

-- machine NODES MEM FRAMES DIST
abbrev pub machine_line : List (List ℕ) → Option Line
machine_line words =
    option_and_then (λ v. with_three (λ n f d. line.Machine (record {
      nodes = n;
      memory = list_of v.1;
      frames = f;
      kernel_orders = has_kernel_orders v.3;
      distances = d;
    })) (small_of v.0) (frames_of v.2) (distances_of v.3)) (four_words words)

-- unmap START LENGTH
abbrev pub unmap_line : List (List ℕ) → Option Line
unmap_line words =
    option_map (λ v. line.Command (Ok (command.Unmap v.0 v.1))) (two_of number_of number_of words)

-- the command that a kernel takes an mbind of length 0 for, whatever its policy
abbrev pub empty_bind : ℕ → Command
empty_bind start =
    command.Mbind start 0 (record { mode = mode.Default; flag = flag.Plain; mask = 0 })

-- an mbind of so many bytes: a fault that a kernel finds only where there are pages is told apart
-- where there are none
abbrev pub bind_line : ℕ → ℕ → Result Specification WordError → Line
bind_line start bytes (Ok spec) = line.Command (Ok (command.Mbind start bytes spec))
bind_line start bytes (Err wrong) =
    if bytes == 0 && waits_for_pages wrong then line.EmptyBind start wrong
    else line.Command (Err wrong)

-- what follows the policy of an mbind
abbrev pub bound_line : Option BoundPages → ℕ → ℕ → Result Specification WordError → Line
bound_line None start bytes policy = bind_line start bytes policy
bound_line (Some pages) start bytes policy = line.Bind start bytes policy pages

-- strict, move TASK CPU, strict move TASK CPU, or nothing
abbrev pub move_pages : Bool → List (List ℕ) → Option BoundPages
move_pages strict (word ∷ words) = if bytes_eq word (codes "move")
    then option_map (λ v. bound.Move (record { strict = strict; task = v.0; cpu = v.1 }))
    (two_of small_of small_of words)
    else None
move_pages strict [] = None

abbrev pub pages_behind_strict : List (List ℕ) → Option BoundPages
pages_behind_strict [] = Some bound.Strict
pages_behind_strict (word ∷ words) = move_pages true (word ∷ words)

abbrev pub bound_pages : List (List ℕ) → Option BoundPages
bound_pages [] = None
bound_pages (word ∷ words) = if bytes_eq word (codes "strict") then pages_behind_strict words
    else move_pages false (word ∷ words)

-- the words behind the policy have to say something
abbrev pub pages_said : List (List ℕ) → Option (Option BoundPages)
pages_said [] = Some None
pages_said (word ∷ words) = option_map Some (bound_pages (word ∷ words))

-- mbind START LENGTH POLICY, mbind START LENGTH POLICY strict, mbind START LENGTH POLICY move
-- TASK CPU, mbind START LENGTH POLICY strict move TASK CPU
abbrev pub mbind_line : List (List ℕ) → Option Line
mbind_line (start ∷ bytes ∷ policy ∷ words) =
    with_three (λ s l pages. bound_line pages s l (policy_of policy)) (number_of start)
    (number_of bytes) (pages_said words)
mbind_line _ = None

-- home START LENGTH NODE
abbrev pub home_line : List (List ℕ) → Option Line
home_line words =
    option_map (λ v. line.Command (Ok (command.SetHome v.0 v.1 v.2)))
    (three_of number_of number_of small_of words)

-- task TASK POLICY
abbrev pub task_line : List (List ℕ) → Option Line
task_line words =
    option_and_then (λ v. option_map (λ t. with_policy (command.SetTask t) (policy_of v.1))
    (small_of v.0)) (two_words words)

-- inherit TASK FROM
abbrev pub inherit_line : List (List ℕ) → Option Line
inherit_line words =
    option_map (λ v. line.Command (Ok (command.Inherit v.0 v.1))) (two_of small_of small_of words)

-- weight NODE W
abbrev pub weight_line : List (List ℕ) → Option Line
weight_line words =
    option_map (λ v. line.Command (Ok (command.SetWeight v.0 v.1))) (two_of small_of small_of words)

-- mems LIST
abbrev pub mems_line : List (List ℕ) → Option Line
mems_line (nodes ∷ []) = Some (with_nodes command.SetMems (list_of nodes))
mems_line _ = None

-- place TASK ADDR CPU
abbrev pub place_line : List (List ℕ) → Option Line
place_line words =
    option_map (λ v. line.Question (question.Place v.0 v.1 v.2))
    (three_of small_of number_of small_of words)

-- span TASK ADDR PAGES CPU
abbrev pub span_line : List (List ℕ) → Option Line
span_line words =
    option_and_then (λ v. option_map (λ pages. line.Question (question.Span v.0 v.1 pages v.3))
    (few_of v.2)) (four_of small_of number_of number_of small_of words)

-- counts TASK ADDR PAGES CPU
abbrev pub counts_line : List (List ℕ) → Option Line
counts_line words =
    option_map (λ v. line.Question (question.Counts v.0 v.1 v.2 v.3))
    (four_of small_of number_of number_of small_of words)

-- ranges
abbrev pub ranges_line : List (List ℕ) → Option Line
ranges_line [] = Some (line.Question question.Ranges)
ranges_line _ = None

-- maps TASK
abbrev pub maps_line : List (List ℕ) → Option Line
maps_line (task ∷ []) = option_map line.Maps (small_of task)
maps_line _ = None

abbrev pub line_after : Keyword → List (List ℕ) → Option Line
line_after keyword.Limits words = limits_line words
line_after keyword.Rules words = rules_line words
line_after keyword.Cpus words = cpus_line words
line_after keyword.Machine words = machine_line words
line_after keyword.Map words = map_line words
line_after keyword.Unmap words = unmap_line words
line_after keyword.Mbind words = mbind_line words
line_after keyword.Home words = home_line words
line_after keyword.Task words = task_line words
line_after keyword.Inherit words = inherit_line words
line_after keyword.Weight words = weight_line words
line_after keyword.Mems words = mems_line words
line_after keyword.Place words = place_line words
line_after keyword.Span words = span_line words
line_after keyword.Counts words = counts_line words
line_after keyword.Ranges words = ranges_line words
line_after keyword.Maps words = maps_line words
line_after keyword.Publish words = option_map line.Work (publish_work words)
line_after keyword.Begin words = option_map line.Work (begin_work words)
line_after keyword.Look words = option_map line.Work (look_work words)
line_after keyword.Try words = option_map line.Work (try_work words)
line_after keyword.Give words = option_map line.Work (give_work words)
line_after keyword.Touch words = option_map line.Work (touch_work words)
line_after keyword.Release words = option_map line.Work (release_work words)
line_after keyword.At words = at_line words
line_after keyword.Room words = room_line words
line_after keyword.MemoryMigrate words = memory_migrate_line words
line_after keyword.Migrate words = migrate_line words
line_after keyword.Move words = move_line words
line_after keyword.Moved words = moved_line words
line_after keyword.Populate words = populate_line words
line_after keyword.Pool words = pool_line words
line_after keyword.Fault words = fault_line words
line_after keyword.Host words = host_line words
line_after keyword.Group words = group_line words
line_after keyword.GroupMems words = group_mems_line words
line_after keyword.Process words = process_line words
line_after keyword.Exit words = exit_line words
line_after keyword.Attach words = attach_line words
line_after keyword.Fork words = fork_line words
line_after keyword.In words = None

-- keywords whose lines come most often
abbrev pub is_common : Keyword → Bool
is_common keyword.Place = true
is_common keyword.Span = true
is_common keyword.Counts = true
is_common keyword.Mbind = true
is_common keyword.Task = true
is_common keyword.Touch = true
is_common keyword.Release = true
is_common _ = false

-- ---- lines

-- behind such a keyword something else than a number may stand, which could be an empty word
abbrev pub takes_texts : Keyword → Bool
takes_texts keyword.Rules = true
takes_texts keyword.Cpus = true
takes_texts keyword.Machine = true
takes_texts keyword.Mbind = true
takes_texts keyword.Task = true
takes_texts keyword.Mems = true
takes_texts keyword.MemoryMigrate = true
takes_texts keyword.Migrate = true
takes_texts keyword.GroupMems = true
takes_texts keyword.In = true
takes_texts _ = false

-- what a line begins with, and the words behind it
abbrev pub begun : List (List ℕ) → Option (Keyword × List (List ℕ))
begun [] = None
begun (first ∷ words) = option_map (λ k. (k, words)) (keyword_of first)

abbrev pub is_in : Keyword → Bool
is_in keyword.In = true
is_in _ = false

-- lines that a process of a host may be told; the others are the host's, or come before a machine
abbrev pub is_told : Keyword → Bool
is_told keyword.Limits = false
is_told keyword.Rules = false
is_told keyword.Cpus = false
is_told keyword.Machine = false
is_told keyword.Weight = false
is_told keyword.Room = false
is_told keyword.MemoryMigrate = false
is_told keyword.Host = false
is_told keyword.Group = false
is_told keyword.GroupMems = false
is_told keyword.Process = false
is_told keyword.Exit = false
is_told keyword.Attach = false
is_told keyword.Fork = false
is_told keyword.In = false
is_told _ = true

-- a line that names no process
abbrev pub alone : Line → ScriptLine
alone said = record { process = None; line = said }

-- what a process is told
abbrev pub told_line : Option Keyword → List (List ℕ) → Option Line
told_line None words = None
told_line (Some k) words = if is_told k then line_after k words else None

-- in P LINE
abbrev pub in_line : List (List ℕ) → Option ScriptLine
in_line (process ∷ first ∷ words) = with_two (λ p said. record { process = Some p; line = said })
    (small_of process) (told_line (keyword_of first) words)
in_line _ = None

abbrev pub script_after : Keyword → List (List ℕ) → Option ScriptLine
script_after k words = if is_in k then in_line words else option_map alone (line_after k words)

-- the line that the words write, where they write one
abbrev pub words_line : List (List ℕ) → Option ScriptLine
words_line [] = None
words_line (first ∷ words) = option_and_then (λ k. script_after k words) (keyword_of first)

-- a line that gives no answer: it is empty, or a comment
abbrev pub is_silent : List ℕ → Bool
is_silent [] = true
is_silent (b ∷ bs) = b == 35

-- a word of the line has no byte: there are two spaces in a row, or one at an end
abbrev pub has_empty_word : List ℕ → Bool
has_empty_word bytes = any_empty (words_of bytes)

-- what a line says, whatever its length: more than 4,096 bytes say nothing that is understood, and
-- neither do words of which one is empty
unfoldable pub line_of : List ℕ → ScriptLine
line_of bytes =
    if is_silent bytes then alone line.Silent
    else if nat_lt 4096 (length bytes) then alone line.Malformed
    else if has_empty_word bytes then alone line.Malformed
    else unwrap_or (words_line (words_of bytes)) (alone line.Malformed)
