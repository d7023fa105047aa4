-- The program with one word alone stands in for the whole on command lines of that word.
use Rattle.std.proofs.Common.{◌≡◌, ◌∙◌, Bool, Option, Some, None, ap, cond, false, refl, sym, true}
use Rattle.std.proofs.Common.{◌∷◌, List, codes, subst}
use Rattle.std.specs.Option.{unwrap_or}
use Rattle.std.specs.Str.{bytes_eq}
use Rattle.std.proofs.lemmas.Slice.Eq.{bytes_eq-Decides}
use Rattle.clap.proofs.OnLiterals.{clap_on_literals}
use Rattle.clap.specs.Words.{App, Shape, Text, fault_of, is_simple_and_free, subcommand_of}
use Rattle.numa_command_line.specs.Grammar.{AreChoices, AreNames, Choices, IsCalled, IsProgram}
use Rattle.numa_command_line.specs.Grammar.{StandsIn, alone, check_arguments, diff_arguments}
use Rattle.numa_command_line.specs.Grammar.{expect_arguments, explain_arguments, moves_arguments}
use Rattle.numa_command_line.specs.Grammar.{predict_arguments, program, reader, replay_arguments}
use Rattle.numa_command_line.specs.Grammar.{report_arguments, run_arguments, shell_arguments}
use Rattle.numa_command_line.specs.Grammar.{rules, rules_names, storm_arguments, word, word_called}
use Rattle.numa_command_line.specs.Usage.{Names, rule_said, shape_said}
use Rattle.numa_command_line.specs.declared.usage.Argument.{Argument}
use Rattle.numa_command_line.specs.declared.usage.SubcommandHelp.{SubcommandHelp}
use Rattle.numa_command_line.proofs.Alone.{SameWord, same_fault, same_rows}

pub record IsAlone (c : Choices) (name : Text) (s : Shape) : Type 0 where
  pub simple : is_simple_and_free (alone s) ≡ true
  pub same : SameWord name (alone s) (program c)

run_alone : (c : Choices)
    → IsAlone c (codes "run") (reader c.rules (codes "run") (run_arguments c.run))
unfolding clap_on_literals
run_alone c = record {
  simple = refl;
  same = record {
    binary = refl;
    other_binary = refl;
    top = refl;
    word = refl;
    met = refl;
    other_met = refl;
    no_help = refl;
  };
}

check_alone : (c : Choices)
    → IsAlone c (codes "check") (reader c.rules (codes "check") (check_arguments c.check))
unfolding clap_on_literals
check_alone c = record {
  simple = refl;
  same = record {
    binary = refl;
    other_binary = refl;
    top = refl;
    word = refl;
    met = refl;
    other_met = refl;
    no_help = refl;
  };
}

expect_alone : (c : Choices)
    → IsAlone c (codes "expect") (reader c.rules (codes "expect") (expect_arguments c.expect))
unfolding clap_on_literals
expect_alone c = record {
  simple = refl;
  same = record {
    binary = refl;
    other_binary = refl;
    top = refl;
    word = refl;
    met = refl;
    other_met = refl;
    no_help = refl;
  };
}

predict_alone : (c : Choices)
    → IsAlone c (codes "predict") (reader c.rules (codes "predict") (predict_arguments c.predict))
unfolding clap_on_literals
predict_alone c = record {
  simple = refl;
  same = record {
    binary = refl;
    other_binary = refl;
    top = refl;
    word = refl;
    met = refl;
    other_met = refl;
    no_help = refl;
  };
}

diff_alone : (c : Choices)
    → IsAlone c (codes "diff") (reader c.rules (codes "diff") (diff_arguments c.diff))
unfolding clap_on_literals
diff_alone c = record {
  simple = refl;
  same = record {
    binary = refl;
    other_binary = refl;
    top = refl;
    word = refl;
    met = refl;
    other_met = refl;
    no_help = refl;
  };
}

moves_alone : (c : Choices)
    → IsAlone c (codes "moves") (reader c.rules (codes "moves") (moves_arguments c.moves))
unfolding clap_on_literals
moves_alone c = record {
  simple = refl;
  same = record {
    binary = refl;
    other_binary = refl;
    top = refl;
    word = refl;
    met = refl;
    other_met = refl;
    no_help = refl;
  };
}

explain_alone : (c : Choices)
    → IsAlone c (codes "explain") (reader c.rules (codes "explain") (explain_arguments c.explain))
unfolding clap_on_literals
explain_alone c = record {
  simple = refl;
  same = record {
    binary = refl;
    other_binary = refl;
    top = refl;
    word = refl;
    met = refl;
    other_met = refl;
    no_help = refl;
  };
}

report_alone : (c : Choices)
    → IsAlone c (codes "report") (reader c.rules (codes "report") report_arguments)
unfolding clap_on_literals
report_alone c = record {
  simple = refl;
  same = record {
    binary = refl;
    other_binary = refl;
    top = refl;
    word = refl;
    met = refl;
    other_met = refl;
    no_help = refl;
  };
}

replay_alone : (c : Choices)
    → IsAlone c (codes "replay") (reader c.rules (codes "replay") (replay_arguments c.replay))
unfolding clap_on_literals
replay_alone c = record {
  simple = refl;
  same = record {
    binary = refl;
    other_binary = refl;
    top = refl;
    word = refl;
    met = refl;
    other_met = refl;
    no_help = refl;
  };
}

shell_alone : (c : Choices)
    → IsAlone c (codes "shell") (reader c.rules (codes "shell") shell_arguments)
unfolding clap_on_literals
shell_alone c = record {
  simple = refl;
  same = record {
    binary = refl;
    other_binary = refl;
    top = refl;
    word = refl;
    met = refl;
    other_met = refl;
    no_help = refl;
  };
}

storm_alone : (c : Choices)
    → IsAlone c (codes "storm") (word (codes "storm") storm_arguments)
unfolding clap_on_literals
storm_alone c = record {
  simple = refl;
  same = record {
    binary = refl;
    other_binary = refl;
    top = refl;
    word = refl;
    met = refl;
    other_met = refl;
    no_help = refl;
  };
}

some_is : (x y : Shape) → Some x ≡ Some y → x ≡ y
some_is x y e = ap (λ o. unwrap_or o x) e

-- a test of a name against a word's, where the tests behind it stand
one_word : (c : Choices) (name label : Text) (w s : Shape) (rest : Option Shape)
    → IsAlone c label w → (rest ≡ Some s → IsAlone c name s)
    → cond (bytes_eq name label) (Some w) rest ≡ Some s → IsAlone c name s
one_word c name label w s rest is behind = go (bytes_eq name label) refl
  where
    go : (t : Bool) → bytes_eq name label ≡ t → cond t (Some w) rest ≡ Some s → IsAlone c name s
    go true same e = subst (λ n. IsAlone c n s) (sym ((bytes_eq-Decides name label).0 same))
        (subst (IsAlone c label) (some_is w s e) is)
    go false other e = behind e

pub word_alone : (c : Choices) (name : Text) (s : Shape) → word_called c name ≡ Some s
    → IsAlone c name s
word_alone c name s =
    one_word c name _ _ s _ (run_alone c) (one_word c name _ _ s _ (check_alone c)
    (one_word c name _ _ s _ (expect_alone c) (one_word c name _ _ s _ (predict_alone c)
    (one_word c name _ _ s _ (diff_alone c) (one_word c name _ _ s _ (moves_alone c)
    (one_word c name _ _ s _ (explain_alone c) (one_word c name _ _ s _ (report_alone c)
    (one_word c name _ _ s _ (replay_alone c) (one_word c name _ _ s _ (shell_alone c)
    (one_word c name _ _ s None (storm_alone c) (λ none. cc)))))))))))

whole_simple : (c : Choices) → is_simple_and_free (program c) ≡ true
unfolding clap_on_literals
whole_simple c = refl

-- the whole program
pub program_simple : (app : App) → IsProgram app → is_simple_and_free app ≡ true
program_simple app is = ap (λ a. is_simple_and_free a) is.2 ∙ whole_simple is.0

pub program_stands : (app : App) → IsProgram app → (line : List Text) → StandsIn line app
program_stands app is line =
    (is.0, is.1, ap (λ a. fault_of a line) is.2, ap (λ a. subcommand_of a line) is.2)

-- whatever `--rules` lists
with_rules : (c : Choices) (names : Names) → AreChoices c → AreNames rules_names names
    → AreChoices (record c { rules = names })
with_rules c names are listed = record {
  run = are.run;
  check = are.check;
  expect = are.expect;
  predict = are.predict;
  diff = are.diff;
  moves = are.moves;
  explain = are.explain;
  replay = are.replay;
  rules = listed;
}

called : (name : Text) (said : SubcommandHelp) (option : Argument) (names : Names)
    → rule_said option ≡ rules names → (is : IsCalled name said)
    → IsAlone (record is.0 { rules = names }) name (shape_said said option)
called name said option names same is = word_alone _ name _ (is.2 option names same)

pub called_simple : (name : Text) (said : SubcommandHelp) (option : Argument) (names : Names)
    → rule_said option ≡ rules names → IsCalled name said
    → is_simple_and_free (alone (shape_said said option)) ≡ true
called_simple name said option names same is = (called name said option names same is).simple

pub called_stands : (name : Text) (said : SubcommandHelp) (option : Argument) (names : Names)
    → AreNames rules_names names → rule_said option ≡ rules names → IsCalled name said
    → (first : Text) (rest : List Text)
    → StandsIn (first ∷ name ∷ rest) (alone (shape_said said option))
called_stands name said option names are same is first rest =
    let stands = (called name said option names same is).same in (
      record is.0 { rules = names },
      with_rules is.0 names is.1 are,
      same_fault name _ _ stands first rest,
      same_rows name _ _ stands first rest,
    )
