-- What is said of a word is the word of the program with that name.
use Rattle.std.proofs.Common.{◌≡◌, Some, ap, codes, false, List, refl, sym, true}
use Rattle.clap.specs.Words.{Rule, Text}
use Rattle.numa_command_line.specs.Grammar.{IsCalled, IsReader, IsWord, check_arguments}
use Rattle.numa_command_line.specs.Grammar.{diff_arguments, diff_formats, drawn_formats}
use Rattle.numa_command_line.specs.Grammar.{expect_arguments, explain_arguments, moves_arguments}
use Rattle.numa_command_line.specs.Grammar.{plain_formats, predict_arguments, predict_formats}
use Rattle.numa_command_line.specs.Grammar.{reader, replay_arguments, replay_formats}
use Rattle.numa_command_line.specs.Grammar.{report_arguments, rules, run_arguments}
use Rattle.numa_command_line.specs.Grammar.{shell_arguments, storm_arguments, test_formats, word}
use Rattle.numa_command_line.specs.Usage.{Names, rule_said, shape_said}
use Rattle.numa_command_line.specs.declared.usage.Argument.{Argument}
use Rattle.numa_command_line.specs.declared.usage.SubcommandHelp.{SubcommandHelp}
use Rattle.numa_command_line.proofs.Examples.{are_choices, some_choices}

-- what is said of a word that reads lines
pub reader_is : (said : SubcommandHelp) (option : Argument) (names : Names) (name : Text)
    (arguments : List Rule)
    → IsWord name arguments true said → rule_said option ≡ rules names
    → shape_said said option ≡ reader names name arguments
reader_is said option names name arguments is same = rw (is.2, is.0, is.1, same) refl

-- and of one that doesn't
pub word_is : (said : SubcommandHelp) (option : Argument) (name : Text) (arguments : List Rule)
    → IsWord name arguments false said → shape_said said option ≡ word name arguments
word_is said option name arguments is = rw (is.2, is.0, is.1) refl

pub run_called : (name : Text) (said : SubcommandHelp) → name ≡ codes "run"
    → IsReader (codes "run") run_arguments plain_formats said → IsCalled name said
run_called name said named is = (
  record some_choices { run = is.0 },
  record {
    run = is.1;
    check = refl;
    expect = refl;
    predict = refl;
    diff = refl;
    moves = refl;
    explain = refl;
    replay = refl;
    rules = refl;
  },
  λ option names same. rw named (sym (ap Some
      (reader_is said option names (codes "run") (run_arguments is.0) is.2 same))),
)

pub check_called : (name : Text) (said : SubcommandHelp) → name ≡ codes "check"
    → IsReader (codes "check") check_arguments plain_formats said → IsCalled name said
check_called name said named is = (
  record some_choices { check = is.0 },
  record {
    run = refl;
    check = is.1;
    expect = refl;
    predict = refl;
    diff = refl;
    moves = refl;
    explain = refl;
    replay = refl;
    rules = refl;
  },
  λ option names same. rw named (sym (ap Some
      (reader_is said option names (codes "check") (check_arguments is.0) is.2 same))),
)

pub expect_called : (name : Text) (said : SubcommandHelp) → name ≡ codes "expect"
    → IsReader (codes "expect") expect_arguments test_formats said → IsCalled name said
expect_called name said named is = (
  record some_choices { expect = is.0 },
  record {
    run = refl;
    check = refl;
    expect = is.1;
    predict = refl;
    diff = refl;
    moves = refl;
    explain = refl;
    replay = refl;
    rules = refl;
  },
  λ option names same. rw named (sym (ap Some
      (reader_is said option names (codes "expect") (expect_arguments is.0) is.2 same))),
)

pub predict_called : (name : Text) (said : SubcommandHelp) → name ≡ codes "predict"
    → IsReader (codes "predict") predict_arguments predict_formats said → IsCalled name said
predict_called name said named is = (
  record some_choices { predict = is.0 },
  record {
    run = refl;
    check = refl;
    expect = refl;
    predict = is.1;
    diff = refl;
    moves = refl;
    explain = refl;
    replay = refl;
    rules = refl;
  },
  λ option names same. rw named (sym (ap Some
      (reader_is said option names (codes "predict") (predict_arguments is.0) is.2 same))),
)

pub diff_called : (name : Text) (said : SubcommandHelp) → name ≡ codes "diff"
    → IsReader (codes "diff") diff_arguments diff_formats said → IsCalled name said
diff_called name said named is = (
  record some_choices { diff = is.0 },
  record {
    run = refl;
    check = refl;
    expect = refl;
    predict = refl;
    diff = is.1;
    moves = refl;
    explain = refl;
    replay = refl;
    rules = refl;
  },
  λ option names same. rw named (sym (ap Some
      (reader_is said option names (codes "diff") (diff_arguments is.0) is.2 same))),
)

pub moves_called : (name : Text) (said : SubcommandHelp) → name ≡ codes "moves"
    → IsReader (codes "moves") moves_arguments drawn_formats said → IsCalled name said
moves_called name said named is = (
  record some_choices { moves = is.0 },
  record {
    run = refl;
    check = refl;
    expect = refl;
    predict = refl;
    diff = refl;
    moves = is.1;
    explain = refl;
    replay = refl;
    rules = refl;
  },
  λ option names same. rw named (sym (ap Some
      (reader_is said option names (codes "moves") (moves_arguments is.0) is.2 same))),
)

pub explain_called : (name : Text) (said : SubcommandHelp) → name ≡ codes "explain"
    → IsReader (codes "explain") explain_arguments drawn_formats said → IsCalled name said
explain_called name said named is = (
  record some_choices { explain = is.0 },
  record {
    run = refl;
    check = refl;
    expect = refl;
    predict = refl;
    diff = refl;
    moves = refl;
    explain = is.1;
    replay = refl;
    rules = refl;
  },
  λ option names same. rw named (sym (ap Some
      (reader_is said option names (codes "explain") (explain_arguments is.0) is.2 same))),
)

pub report_called : (name : Text) (said : SubcommandHelp) → name ≡ codes "report"
    → IsWord (codes "report") report_arguments true said → IsCalled name said
report_called name said named is = (
  some_choices,
  are_choices,
  λ option names same. rw named (sym (ap Some
      (reader_is said option names (codes "report") report_arguments is same))),
)

pub replay_called : (name : Text) (said : SubcommandHelp) → name ≡ codes "replay"
    → IsReader (codes "replay") replay_arguments replay_formats said → IsCalled name said
replay_called name said named is = (
  record some_choices { replay = is.0 },
  record {
    run = refl;
    check = refl;
    expect = refl;
    predict = refl;
    diff = refl;
    moves = refl;
    explain = refl;
    replay = is.1;
    rules = refl;
  },
  λ option names same. rw named (sym (ap Some
      (reader_is said option names (codes "replay") (replay_arguments is.0) is.2 same))),
)

pub shell_called : (name : Text) (said : SubcommandHelp) → name ≡ codes "shell"
    → IsWord (codes "shell") shell_arguments true said → IsCalled name said
shell_called name said named is = (
  some_choices,
  are_choices,
  λ option names same. rw named (sym (ap Some
      (reader_is said option names (codes "shell") shell_arguments is same))),
)

pub storm_called : (name : Text) (said : SubcommandHelp) → name ≡ codes "storm"
    → IsWord (codes "storm") storm_arguments false said → IsCalled name said
storm_called name said named is = (
  some_choices,
  are_choices,
  λ option names same. rw named (sym (ap Some
      (word_is said option (codes "storm") storm_arguments is))),
)
