-- The words of the command line, and the arguments of each.
use Rattle.std.specs.Prelude.{◌≡◌, ◌∷◌, [], List, Bool, Option, Some, None, true, codes, map}
use Rattle.std.specs.Prelude.{if◌then◌else◌}
use Rattle.std.specs.Str.{bytes_eq}
use Rattle.clap.specs.Words.{App, Rule, Shape, Text, fault_of, subcommand_of, with_rule}
use Rattle.clap.specs.Words.{with_subcommand}
use Rattle.clap.specs.Simple.{new_shape}
use Rattle.numa_command_line.specs.Usage.{Names, bare, choice, flag, needed, number, number_or}
use Rattle.numa_command_line.specs.Usage.{option, option_or, options, rule_said, shape_said, words}
use Rattle.numa_command_line.specs.declared.usage.Argument.{Argument}
use Rattle.numa_command_line.specs.declared.usage.SubcommandHelp.{SubcommandHelp}

-- ---- arguments

abbrev pub files : Rule
files = words (codes "FILE")

abbrev pub lenient : Rule
lenient = flag (codes "lenient")

-- whether a text has the names of areas
abbrev pub names : Rule
names = flag (codes "names")

abbrev pub task : Rule
task = number (codes "task")

abbrev pub node : Rule
node = needed true (option_or (codes "node") (codes "cpu"))

-- which process of a host is asked for
abbrev pub process : Rule
process = option (codes "process")

abbrev pub format : Names → Rule
format = choice (codes "format") (codes "text")

-- how many ranges a picture or a page shows by themselves
abbrev pub largest : Rule
largest = number (codes "largest")

-- in which a word answers
abbrev pub plain_formats : List Text
plain_formats = codes "text" ∷ codes "json" ∷ []

abbrev pub test_formats : List Text
test_formats = codes "text" ∷ codes "json" ∷ codes "tap" ∷ []

abbrev pub predict_formats : List Text
predict_formats = codes "text" ∷ codes "json" ∷ codes "csv" ∷ codes "svg" ∷ codes "html" ∷ []

abbrev pub diff_formats : List Text
diff_formats = codes "text" ∷ codes "json" ∷ codes "svg" ∷ codes "html" ∷ []

abbrev pub drawn_formats : List Text
drawn_formats = codes "text" ∷ codes "json" ∷ codes "svg" ∷ []

abbrev pub replay_formats : List Text
replay_formats = codes "text" ∷ codes "json" ∷ codes "csv" ∷ codes "html" ∷ []

abbrev pub rules : Names → Rule
rules = choice (codes "rules") (codes "document")

abbrev pub rules_names : List Text
rules_names = codes "document" ∷ codes "linux" ∷ []

-- ---- words: each is one name, its arguments, and whether it reads lines of scripts

abbrev pub IsWord : Text → List Rule → Bool → SubcommandHelp → Type 0
IsWord name arguments reads_lines word =
    (word.name.now ≡ name) × (map rule_said word.arguments.now ≡ arguments)
    × (word.reads_lines ≡ reads_lines)

abbrev pub run_arguments : Names → List Rule
run_arguments formats = flag (codes "echo") ∷ format formats ∷ files ∷ []

abbrev pub check_arguments : Names → List Rule
check_arguments formats = format formats ∷ process ∷ files ∷ []

abbrev pub expect_arguments : Names → List Rule
expect_arguments formats =
    format formats ∷ flag (codes "ignore-versions") ∷ flag (codes "update") ∷ needed true files ∷ []

abbrev pub predict_arguments : Names → List Rule
predict_arguments formats =
    task ∷ node ∷ option (codes "at") ∷ process ∷ format formats ∷ largest
    ∷ option (codes "free") ∷ names ∷ lenient ∷ files ∷ []

abbrev pub diff_arguments : Names → List Rule
diff_arguments formats =
    task ∷ node ∷ needed true (options (codes "then")) ∷ option (codes "at") ∷ process
    ∷ format formats ∷ largest ∷ names ∷ lenient ∷ files ∷ []

abbrev pub moves_arguments : Names → List Rule
moves_arguments formats =
    option (codes "at") ∷ task ∷ number_or (codes "node") (codes "cpu")
    ∷ needed true (options (codes "then")) ∷ option (codes "free") ∷ process ∷ format formats
    ∷ largest ∷ names ∷ lenient ∷ files ∷ []

abbrev pub explain_arguments : Names → List Rule
explain_arguments formats =
    task ∷ node ∷ option (codes "at") ∷ number (codes "pages") ∷ process ∷ format formats ∷ names
    ∷ lenient ∷ needed true (bare (codes "ADDRESS")) ∷ files ∷ []

abbrev pub report_arguments : List Rule
report_arguments =
    task ∷ node ∷ options (codes "then") ∷ process ∷ lenient ∷ files ∷ []

abbrev pub replay_arguments : Names → List Rule
replay_arguments formats =
    needed true (option (codes "trace")) ∷ option (codes "free") ∷ flag (codes "mean")
    ∷ flag (codes "ranges") ∷ process ∷ format formats ∷ largest ∷ lenient ∷ files ∷ []

abbrev pub shell_arguments : List Rule
shell_arguments = process ∷ files ∷ []

abbrev pub storm_arguments : List Rule
storm_arguments = needed true (option (codes "workers")) ∷ []

-- ---- the program

-- the names that an argument may have as its value, which lie somewhere
pub record Choices : Type 0 where
  pub run : Names
  pub check : Names
  pub expect : Names
  pub predict : Names
  pub diff : Names
  pub moves : Names
  pub explain : Names
  pub replay : Names
  pub rules : Names

abbrev pub AreNames : List Text → Names → Type 0
AreNames texts names = map (λ name. name.now) names.now ≡ texts

-- a word that reads lines of scripts, with these formats among its arguments
abbrev pub IsReader : Text → (Names → List Rule) → List Text → SubcommandHelp → Type 0
IsReader name arguments texts word =
    (formats : Names) × AreNames texts formats × IsWord name (arguments formats) true word

pub record AreChoices (c : Choices) : Type 0 where
  pub run : AreNames plain_formats c.run
  pub check : AreNames plain_formats c.check
  pub expect : AreNames test_formats c.expect
  pub predict : AreNames predict_formats c.predict
  pub diff : AreNames diff_formats c.diff
  pub moves : AreNames drawn_formats c.moves
  pub explain : AreNames drawn_formats c.explain
  pub replay : AreNames replay_formats c.replay
  pub rules : AreNames rules_names c.rules

abbrev pub word : Text → List Rule → Shape
word name arguments = record (new_shape name) { rules = arguments }

-- before its first word
abbrev pub bare_program : App
bare_program = record {
  top = record (new_shape (codes "numaplan")) {
    has_version = true;
    subcommand_required = true;
    arg_required_else_help = true;
  };
  subs = [];
}

-- a word that reads lines of scripts
abbrev pub reader : Names → Text → List Rule → Shape
reader names name arguments =
    (with_rule (record { top = word name arguments; subs = [] }) (rules names)).top

abbrev pub program : Choices → App
program c =
    with_subcommand (with_subcommand (with_subcommand (with_subcommand (with_subcommand
    (with_subcommand (with_subcommand (with_subcommand (with_subcommand (with_subcommand
    (with_subcommand bare_program
    (reader c.rules (codes "run") (run_arguments c.run)))
    (reader c.rules (codes "check") (check_arguments c.check)))
    (reader c.rules (codes "expect") (expect_arguments c.expect)))
    (reader c.rules (codes "predict") (predict_arguments c.predict)))
    (reader c.rules (codes "diff") (diff_arguments c.diff)))
    (reader c.rules (codes "moves") (moves_arguments c.moves)))
    (reader c.rules (codes "explain") (explain_arguments c.explain)))
    (reader c.rules (codes "report") report_arguments))
    (reader c.rules (codes "replay") (replay_arguments c.replay)))
    (reader c.rules (codes "shell") shell_arguments))
    (word (codes "storm") storm_arguments)

-- the command is the program's, wherever the names lie
abbrev pub IsProgram : App → Type 0
IsProgram app = (c : Choices) × AreChoices c × (app ≡ program c)

-- the word of this name
abbrev pub word_called : Choices → Text → Option Shape
word_called c name =
    if bytes_eq name (codes "run") then Some (reader c.rules (codes "run") (run_arguments c.run))
    else if bytes_eq name (codes "check")
    then Some (reader c.rules (codes "check") (check_arguments c.check))
    else if bytes_eq name (codes "expect")
    then Some (reader c.rules (codes "expect") (expect_arguments c.expect))
    else if bytes_eq name (codes "predict")
    then Some (reader c.rules (codes "predict") (predict_arguments c.predict))
    else if bytes_eq name (codes "diff")
    then Some (reader c.rules (codes "diff") (diff_arguments c.diff))
    else if bytes_eq name (codes "moves")
    then Some (reader c.rules (codes "moves") (moves_arguments c.moves))
    else if bytes_eq name (codes "explain")
    then Some (reader c.rules (codes "explain") (explain_arguments c.explain))
    else if bytes_eq name (codes "report")
    then Some (reader c.rules (codes "report") report_arguments)
    else if bytes_eq name (codes "replay")
    then Some (reader c.rules (codes "replay") (replay_arguments c.replay))
    else if bytes_eq name (codes "shell")
    then Some (reader c.rules (codes "shell") shell_arguments)
    else if bytes_eq name (codes "storm") then Some (word (codes "storm") storm_arguments)
    else None

-- what is said of the word of this name, whatever `--rules` lists
abbrev pub IsCalled : Text → SubcommandHelp → Type 0
IsCalled name said = (c : Choices) × AreChoices c × ((option : Argument) (names : Names)
    → rule_said option ≡ rules names
    → word_called (record c { rules = names }) name ≡ Some (shape_said said option))

-- the program with one word alone
abbrev pub alone : Shape → App
alone word = with_subcommand bare_program word

-- a parse of this command line is refused as the program's is, and finds what that finds
abbrev pub StandsIn : List Text → App → Type 0
StandsIn line app = (c : Choices) × AreChoices c × (fault_of app line ≡ fault_of (program c) line)
    × (subcommand_of app line ≡ subcommand_of (program c) line)
