-- What the parse reads of what is said of arguments and words.
use Rattle.std.specs.Prelude.{◌≡◌, ◌∷◌, [], List, Bool, false, Some, map, pos}
use Rattle.std.specs.Prelude.{if◌then◌else◌}
use Rattle.std.specs.Borrow.{Bor}
use Rattle.clap.specs.Lexer.{usize_max}
use Rattle.clap.specs.Words.{App, Rule, Shape, Text, new_rule, with_rule}
use Rattle.clap.specs.Simple.{new_shape}
use Rattle.clap.specs.declared.builder.command.Command.{Command}
use Rattle.clap.specs.declared.builder.command.Command.TheViews.{out-Command as fields_of}
use Rattle.clap.specs.declared.builder.action.ArgAction.TheVariants.{Set, Append, SetTrue}
use Rattle.clap.specs.declared.builder.value_parser.ValueParser.TheVariants as parser
use Rattle.numa_command_line.specs.declared.usage.Argument.{Argument}
use Rattle.numa_command_line.specs.declared.usage.SubcommandHelp.{SubcommandHelp}
use Rattle.numa_command_line.specs.declared.usage.Takes.{Takes}
use Rattle.numa_command_line.specs.declared.usage.Takes.TheVariants.{Nothing, Text as One, Texts}
use Rattle.numa_command_line.specs.declared.usage.Takes.TheVariants.{Number, NumberOr, TextOr}
use Rattle.numa_command_line.specs.declared.usage.Takes.TheVariants.{OneOf, Bare, Files}

-- the texts that are one of these
abbrev pub Names : Type 0
Names = Bor (List (Bor Text))

-- an argument that is written `--NAME`
abbrev pub flag : Text → Rule
flag name = record (new_rule name) { long = Some name; action = Some SetTrue }

-- an argument that is written `--NAME VALUE`
abbrev pub option : Text → Rule
option name = record (new_rule name) { long = Some name; action = Some Set; value_names = 1 }

-- the same, where it may stand more than once
abbrev pub options : Text → Rule
options name = record (option name) { action = Some Append }

-- an argument with a value, which has another name
abbrev pub option_or : Text → Text → Rule
option_or name other = record (option name) { aliases = other ∷ [] }

-- one with a value that is a number below 2^32
abbrev pub number : Text → Rule
number name = record (option name) { parser = Some (parser.Signed (pos 0) (pos 4294967295)) }

-- the same, which has another name
abbrev pub number_or : Text → Text → Rule
number_or name other = record (number name) { aliases = other ∷ [] }

-- the same, where the value is one of these names, and the first where it isn't given
abbrev pub choice : Text → Text → Names → Rule
choice name default names =
    record (option name) { parser = Some (parser.Names names); defaults = default ∷ [] }

-- one word
abbrev pub bare : Text → Rule
bare name = record (new_rule name) { action = Some Set }

-- any number of words
abbrev pub words : Text → Rule
words name = record (new_rule name) {
  action = Some Append;
  range = Some (record { start_inclusive = 0; end_inclusive = usize_max });
}

abbrev pub needed : Bool → Rule → Rule
needed is_required rule = record rule { required = is_required }

abbrev pub rule_by : Takes → Text → Rule
rule_by Nothing name = flag name
rule_by One name = option name
rule_by Texts name = options name
rule_by Number name = number name
rule_by (NumberOr other) name = number_or name other.now
rule_by (TextOr other) name = option_or name other.now
rule_by (OneOf default names) name = choice name default.now names
rule_by Bare name = bare name
rule_by Files name = words name

-- what is said of an argument
abbrev pub rule_said : Argument → Rule
rule_said said = needed said.is_required (rule_by said.takes said.name.now)

-- what is said of a word: its name and its own arguments
abbrev pub own_app : SubcommandHelp → App
own_app said = record {
  top = record (new_shape said.name.now) { rules = map rule_said said.arguments.now };
  subs = [];
}

-- and `--rules`, where it reads lines of scripts
abbrev pub app_said : SubcommandHelp → Argument → App
app_said said rules =
    if said.reads_lines then with_rule (own_app said) (rule_said rules) else own_app said

abbrev pub shape_said : SubcommandHelp → Argument → Shape
shape_said said rules = (app_said said rules).top

-- no argument of the command, nor of its subcommands, is an argument of all subcommands
abbrev pub IsLocal : Command → Type 0
IsLocal command = (fields_of command).has_globals ≡ false
