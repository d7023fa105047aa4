-- Why a line is malformed, and where.
use Rattle.std.specs.Prelude.{ℕ, ◌+◌, ◌==◌, ◌||◌, Bool, true, false, not, List, [], ◌∷◌, length}
use Rattle.std.specs.Prelude.{codes, drop, take, position, slice_index, nat_lt, is_some}
use Rattle.std.specs.Prelude.{if◌then◌else◌, Option, Some, None}
use Rattle.std.specs.Option.{option_map}
use Rattle.std.specs.Str.{bytes_eq}
use Rattle.numa_script.specs.Lines.{keyword_of, is_in, is_silent, is_told}
use Rattle.numa_script.specs.Machines.{frames_of, distances_of, rules_of}
use Rattle.numa_script.specs.Numbers.{number_of}
use Rattle.numa_script.specs.PageLines.{switch_of}
use Rattle.numa_script.specs.Parts.{words_of}
use Rattle.numa_script.specs.declared.keyword.Keyword.{Keyword}
use Rattle.numa_script.specs.declared.keyword.Keyword.TheVariants as keyword
use Rattle.numa_script.specs.declared.line.Line.{Line}
use Rattle.numa_script.specs.declared.line.Line.TheVariants as line
use Rattle.numa_script.specs.declared.malformed.Cause.{Cause}
use Rattle.numa_script.specs.declared.malformed.Cause.TheVariants as cause
use Rattle.numa_script.specs.declared.malformed.Malformed.{Malformed}
use Rattle.numa_script.specs.declared.parameter.Form.{Form}
use Rattle.numa_script.specs.declared.parameter.Form.TheVariants as form
use Rattle.numa_script.specs.declared.parameter.Misfit.{Misfit}
use Rattle.numa_script.specs.declared.parameter.Misfit.TheVariants.{Unreadable, TooGreat}
use Rattle.numa_script.specs.declared.parameter.Parameter.{Parameter}
use Rattle.numa_script.specs.declared.parameter.Parameter.TheVariants as parameter

-- ---- the words behind the first

-- the table of lines: the words after each keyword
abbrev pub parameters_of : Keyword → List Parameter
parameters_of keyword.Limits = parameter.Ranges ∷ parameter.Tasks ∷ parameter.Commands ∷ []
parameters_of keyword.Rules = parameter.Rules ∷ []
parameters_of keyword.Cpus = parameter.List ∷ []
parameters_of keyword.Machine =
    parameter.Nodes ∷ parameter.Memory ∷ parameter.Frames ∷ parameter.Distances ∷ []
parameters_of keyword.Map = parameter.Start ∷ parameter.Length ∷ parameter.Offset ∷ []
parameters_of keyword.Unmap = parameter.Start ∷ parameter.Length ∷ []
parameters_of keyword.Mbind = parameter.Start ∷ parameter.Length ∷ parameter.Policy ∷ []
parameters_of keyword.Home = parameter.Start ∷ parameter.Length ∷ parameter.Node ∷ []
parameters_of keyword.Task = parameter.Task ∷ parameter.Policy ∷ []
parameters_of keyword.Inherit = parameter.Task ∷ parameter.From ∷ []
parameters_of keyword.Weight = parameter.Node ∷ parameter.Weight ∷ []
parameters_of keyword.Mems = parameter.List ∷ []
parameters_of keyword.Place = parameter.Task ∷ parameter.Address ∷ parameter.Cpu ∷ []
parameters_of keyword.Span =
    parameter.Task ∷ parameter.Address ∷ parameter.SpanPages ∷ parameter.Cpu ∷ []
parameters_of keyword.Counts =
    parameter.Task ∷ parameter.Address ∷ parameter.Pages ∷ parameter.Cpu ∷ []
parameters_of keyword.Ranges = []
parameters_of keyword.Maps = parameter.Task ∷ []
parameters_of keyword.Publish = []
parameters_of keyword.Begin =
    parameter.Worker ∷ parameter.Task ∷ parameter.Address ∷ parameter.Cpu ∷ []
parameters_of keyword.Look = parameter.Worker ∷ parameter.Word ∷ []
parameters_of keyword.Try = parameter.Worker ∷ parameter.FrameNode ∷ parameter.Frame ∷ []
parameters_of keyword.Give = parameter.Worker ∷ parameter.FrameNode ∷ parameter.Frame ∷ []
parameters_of keyword.Touch =
    parameter.Worker ∷ parameter.Task ∷ parameter.Address ∷ parameter.Cpu ∷ []
parameters_of keyword.Release = parameter.Worker ∷ parameter.Address ∷ []
parameters_of keyword.At = parameter.Start ∷ parameter.Length ∷ parameter.Node ∷ []
parameters_of keyword.Room = parameter.Node ∷ parameter.RoomPages ∷ []
parameters_of keyword.MemoryMigrate = parameter.Switch ∷ []
parameters_of keyword.Migrate = parameter.FromList ∷ parameter.ToList ∷ []
parameters_of keyword.Move = parameter.Address ∷ parameter.Node ∷ []
parameters_of keyword.Moved = []
parameters_of keyword.Populate =
    parameter.Start ∷ parameter.Length ∷ parameter.Task ∷ parameter.Cpu ∷ []
parameters_of keyword.Pool = parameter.Count ∷ parameter.Task ∷ parameter.Cpu ∷ []
parameters_of keyword.Fault = parameter.Task ∷ parameter.Address ∷ parameter.Cpu ∷ []
parameters_of keyword.Host = []
parameters_of keyword.Group = parameter.Group ∷ parameter.Parent ∷ []
parameters_of keyword.GroupMems = parameter.Group ∷ parameter.List ∷ []
parameters_of keyword.Process = parameter.Process ∷ parameter.Group ∷ []
parameters_of keyword.Exit = parameter.Process ∷ []
parameters_of keyword.Attach = parameter.Process ∷ parameter.Group ∷ []
parameters_of keyword.Fork =
    parameter.Process ∷ parameter.Child ∷ parameter.Task ∷ parameter.ChildTask ∷ []
parameters_of keyword.In = parameter.Process ∷ parameter.Line ∷ []

-- behind the policy of an mbind: `strict`, `move TASK CPU`, or both
abbrev pub moving_words : List Parameter
moving_words = parameter.Move ∷ parameter.Task ∷ parameter.Cpu ∷ []

abbrev pub behind_strict : List (List ℕ) → List Parameter
behind_strict [] = []
behind_strict (word ∷ words) = if bytes_eq word (codes "move") then moving_words else []

abbrev pub behind_policy : List (List ℕ) → List Parameter
behind_policy [] = []
behind_policy (word ∷ words) =
    if bytes_eq word (codes "strict") then parameter.Strict ∷ behind_strict words
    else if bytes_eq word (codes "move") then moving_words
    else []

-- a node and its pages, or nothing
abbrev pub behind_room : List (List ℕ) → List Parameter
behind_room [] = []
behind_room (word ∷ words) = parameters_of keyword.Room

-- nothing, a number of pages, a node and such a number, or such a number with a task and a CPU
abbrev pub behind_pool : List (List ℕ) → List Parameter
behind_pool [] = []
behind_pool (first ∷ []) = parameter.Count ∷ []
behind_pool (first ∷ second ∷ []) = parameter.Node ∷ parameter.Count ∷ []
behind_pool (first ∷ second ∷ third ∷ words) = parameters_of keyword.Pool

-- behind the offset of a map: `huge TASK`, and perhaps `noreserve`
abbrev pub behind_huge : List (List ℕ) → List Parameter
behind_huge (task ∷ word ∷ words) = if bytes_eq word (codes "noreserve")
    then parameter.Task ∷ parameter.NoReserve ∷ [] else parameter.Task ∷ []
behind_huge _ = parameter.Task ∷ []

abbrev pub behind_map : List (List ℕ) → List Parameter
behind_map [] = []
behind_map (word ∷ words) = if bytes_eq word (codes "huge")
    then parameter.Huge ∷ behind_huge words else []

-- the words that there should be, of which these are
abbrev pub wanted_of : Keyword → List (List ℕ) → List Parameter
wanted_of keyword.Mbind words = parameter.Start ∷ parameter.Length ∷ parameter.Policy
    ∷ behind_policy (drop 3 words)
wanted_of keyword.Map words = parameter.Start ∷ parameter.Length ∷ parameter.Offset
    ∷ behind_map (drop 3 words)
wanted_of keyword.Room words = behind_room words
wanted_of keyword.Pool words = behind_pool words
wanted_of k words = parameters_of k

-- what each has to be: a number has a greatest, and for lists and policies anything may stand there
abbrev pub form_of : Parameter → Form
form_of parameter.Start = form.Number 18446744073709551615
form_of parameter.Length = form.Number 18446744073709551615
form_of parameter.Offset = form.Number 18446744073709551615
form_of parameter.Address = form.Number 18446744073709551615
form_of parameter.Pages = form.Number 18446744073709551615
form_of parameter.RoomPages = form.Number 18446744073709551615
form_of parameter.Ranges = form.Number 4294967295
form_of parameter.Tasks = form.Number 4294967295
form_of parameter.From = form.Number 4294967295
form_of parameter.Commands = form.Number 4294967295
form_of parameter.Nodes = form.Number 4294967295
form_of parameter.Node = form.Number 4294967295
form_of parameter.Weight = form.Number 4294967295
form_of parameter.Task = form.Number 4294967295
form_of parameter.Cpu = form.Number 4294967295
form_of parameter.Worker = form.Number 4294967295
form_of parameter.Word = form.Number 4294967295
form_of parameter.Process = form.Number 4294967295
form_of parameter.Child = form.Number 4294967295
form_of parameter.ChildTask = form.Number 4294967295
form_of parameter.Group = form.Number 4294967295
form_of parameter.Parent = form.Number 4294967295
form_of parameter.SpanPages = form.Number 65536
form_of parameter.FrameNode = form.Number 255
form_of parameter.Frame = form.Number 65535
form_of parameter.Rules = form.Rules
form_of parameter.Frames = form.Frames
form_of parameter.Distances = form.Distances
form_of parameter.Memory = form.Any
form_of parameter.List = form.Any
form_of parameter.Policy = form.Any
form_of parameter.Count = form.Number 9223372036854775807
form_of parameter.Huge = form.Word
form_of parameter.NoReserve = form.Word
form_of parameter.Switch = form.Switch
form_of parameter.FromList = form.Any
form_of parameter.ToList = form.Any
form_of parameter.Strict = form.Any
form_of parameter.Move = form.Any
form_of parameter.Line = form.Any

-- how a number isn't one of at most `greatest`
abbrev pub number_misfit : ℕ → Option ℕ → Option Misfit
number_misfit greatest None = Some Unreadable
number_misfit greatest (Some n) = if nat_lt greatest n then Some TooGreat else None

abbrev pub unless_readable : Bool → Option Misfit
unless_readable true = None
unless_readable false = Some Unreadable

-- how a word isn't of its form
abbrev pub misfit_of : Form → List ℕ → Option Misfit
misfit_of (form.Number greatest) word = number_misfit greatest (number_of word)
misfit_of form.Rules word = unless_readable (is_some (rules_of word))
misfit_of form.Frames word = unless_readable (is_some (frames_of word))
misfit_of form.Distances word = unless_readable (is_some (distances_of word))
misfit_of form.Switch word = unless_readable (is_some (switch_of word))
misfit_of form.Word word = unless_readable (not (length word == 0))
misfit_of form.Any word = None

-- the words in turn, the first of them at this column: the first that isn't of its form, and where
-- it begins
abbrev pub misfit_else : Keyword → Parameter → ℕ → Option Misfit → Option Malformed
    → Option Malformed
misfit_else k p column (Some misfit) later =
    Some (record { cause = cause.BadWord k p misfit; column = column })
misfit_else k p column None later = later

abbrev pub first_misfit : Keyword → List Parameter → ℕ → List (List ℕ) → Option Malformed
first_misfit k [] column words = None
first_misfit k (p ∷ ps) column [] = None
first_misfit k (p ∷ ps) column (word ∷ words) =
    misfit_else k p column (misfit_of (form_of p) word)
    (first_misfit k ps (column + length word + 1) words)

-- the bytes of words, each with the space after it
abbrev pub width_of : List (List ℕ) → ℕ
width_of [] = 0
width_of (word ∷ words) = length word + 1 + width_of words

-- Their number is judged first. Of too few the column is where the next word would begin, of too
-- many where the first of these begins.
abbrev pub fault_behind : Keyword → ℕ → List (List ℕ) → Option Malformed
fault_behind k column words =
    let wanted = length (wanted_of k words) in
    if nat_lt (length words) wanted
    then Some (record { cause = cause.TooFewWords k; column = column + width_of words })
    else if nat_lt wanted (length words)
    then Some (record {
      cause = cause.TooManyWords k;
      column = column + width_of (take wanted words);
    })
    else first_misfit k (wanted_of k words) column words

-- ---- what a process is told

-- how many words stand before those of a line, or of one that a process is told
abbrev pub skipped : Bool → ℕ
skipped false = 1
skipped true = 3

-- the line that a process is told, from its first word on, which stands at this column
abbrev pub told_fault : Option Keyword → ℕ → List ℕ → List (List ℕ) → Option Malformed
told_fault None column first words = Some (record { cause = cause.UnknownWord; column = column })
told_fault (Some k) column first words =
    if is_told k then fault_behind k (column + length first + 1) words
    else Some (record { cause = cause.NotTold k; column = column })

-- in P LINE, from the word after `in` on
abbrev pub in_fault : ℕ → List (List ℕ) → Option Malformed
in_fault column (process ∷ first ∷ words) =
    misfit_else keyword.In parameter.Process column (misfit_of (form_of parameter.Process) process)
    (told_fault (keyword_of first) (column + length process + 1) first words)
in_fault column words =
    Some (record { cause = cause.TooFewWords keyword.In; column = column + width_of words })

-- ---- the line

abbrev pub after_fault : Keyword → ℕ → List (List ℕ) → Option Malformed
after_fault k column words = if is_in k then in_fault column words else fault_behind k column words

abbrev pub keyword_fault : Option Keyword → ℕ → List (List ℕ) → Option Malformed
keyword_fault None column words = Some (record { cause = cause.UnknownWord; column = 1 })
keyword_fault (Some k) column words = after_fault k column words

-- the words of a line, none of them empty: the second begins after the first and its space
abbrev pub words_fault : List (List ℕ) → Option Malformed
words_fault [] = None
words_fault (first ∷ words) = keyword_fault (keyword_of first) (length first + 2) words

-- where the first empty word begins, where the first word begins at this column
abbrev pub empty_word : ℕ → List (List ℕ) → Option ℕ
empty_word column [] = None
empty_word column (word ∷ words) =
    if length word == 0 then Some column else empty_word (column + length word + 1) words

-- what an empty word at this column means in a line of this length
abbrev pub spare_space : ℕ → ℕ → Cause
spare_space size column =
    if column == 1 then cause.LeadingSpace
    else if nat_lt size column then cause.TrailingSpace
    else cause.TwoSpaces

abbrev pub empty_else : ℕ → Option ℕ → Option Malformed → Option Malformed
empty_else size (Some column) later =
    Some (record { cause = spare_space size column; column = column })
empty_else size None later = later

-- a byte that is neither a space nor a character that ASCII prints, as a tab or a carriage return
abbrev pub is_stray : ℕ → Bool
is_stray b = nat_lt b 32 || nat_lt 126 b

-- what is wrong with a line is first of all such a byte
abbrev pub stray_else : List ℕ → Option ℕ → Malformed → Malformed
stray_else bytes (Some place) fault =
    record { cause = cause.StrayByte (slice_index bytes place); column = place + 1 }
stray_else bytes None fault = fault

-- why the line is malformed, and at which column what is wrong begins; none where it isn't
-- malformed
unfoldable pub fault_of : List ℕ → Option Malformed
fault_of bytes =
    if is_silent bytes then None
    else if nat_lt 4096 (length bytes) then Some (record { cause = cause.TooLong; column = 4097 })
    else option_map (stray_else bytes (position is_stray bytes))
    (empty_else (length bytes) (empty_word 1 (words_of bytes)) (words_fault (words_of bytes)))

-- the line is malformed
abbrev pub is_malformed : Line → Bool
is_malformed line.Silent = false
is_malformed line.Malformed = true
is_malformed (line.Limits ranges tasks commands) = false
is_malformed (line.Rules rules) = false
is_malformed (line.Cpus said) = false
is_malformed (line.Machine said) = false
is_malformed (line.Command said) = false
is_malformed (line.EmptyBind start fault) = false
is_malformed (line.Question said) = false
is_malformed (line.Maps task) = false
is_malformed (line.Work said) = false
is_malformed (line.Pages said) = false
is_malformed (line.Bind start bytes policy pages) = false
is_malformed (line.Huge said) = false
is_malformed line.Host = false
is_malformed (line.HostCommand said) = false
