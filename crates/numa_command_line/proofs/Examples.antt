-- Command lines, and what they ask for.
use Rattle.std.proofs.Common.{◌≡◌, List, [], ◌∷◌, Some, None, codes, map, refl, true, false}
use Rattle.clap.specs.Words.{Text, fault_of}
use Rattle.clap.specs.declared.error.kind.ErrorKind.TheVariants as kind
use Rattle.clap.proofs.OnLiterals.{clap_on_literals}
use Rattle.numa_machine.specs.declared.rules.Rules.TheVariants.{Document}
use Rattle.numa_command_line.specs.Asked.{doings_asked}
use Rattle.numa_sheets.specs.declared.format.Format.TheVariants as format
use Rattle.numa_script.specs.Numbers.{in_64_bits, number_of, numeral_of}
use Rattle.numa_command_line.specs.Grammar.{AreChoices, Choices, diff_formats, plain_formats}
use Rattle.numa_command_line.specs.Grammar.{drawn_formats, predict_formats, program, replay_formats}
use Rattle.numa_command_line.specs.Grammar.{rules_names, test_formats}
use Rattle.numa_command_line.specs.Jobs.{ask, check, explain, run, scripts, storm}
use Rattle.numa_command_line.specs.Usage.{Names}
use Rattle.numa_command_line.specs.Values.{address_of}
use Rattle.numa_sheets.specs.declared.asked.CpuAsked.TheVariants.{Each}

-- names that lie nowhere
abbrev names_of : List Text → Names
names_of texts =
    record { ref_ptr = (0, 0); now = map (λ text. record { ref_ptr = (0, 0); now = text }) texts }

abbrev pub some_choices : Choices
some_choices = record {
  run = names_of plain_formats;
  check = names_of plain_formats;
  expect = names_of test_formats;
  predict = names_of predict_formats;
  diff = names_of diff_formats;
  moves = names_of drawn_formats;
  explain = names_of drawn_formats;
  replay = names_of replay_formats;
  rules =
      names_of rules_names;
}

pub are_choices : AreChoices some_choices
are_choices = record {
  run = refl;
  check = refl;
  expect = refl;
  predict = refl;
  diff = refl;
  moves = refl;
  explain = refl;
  replay = refl;
  rules = refl;
}

run_of_files : (c : Choices)
    → doings_asked (program c) (codes "numaplan" ∷ codes "run" ∷ codes "--echo" ∷ codes "a"
    ∷ codes "-" ∷ [])
    ≡ Some (scripts (codes "a" ∷ codes "-" ∷ []) Document None (run true format.Text))
unfolding clap_on_literals
run_of_files c = refl

check_of_a_process : (c : Choices)
    → doings_asked (program c) (codes "numaplan" ∷ codes "check" ∷ codes "--process" ∷ codes "3"
    ∷ codes "a" ∷ [])
    ≡ Some (scripts (codes "a" ∷ []) Document (Some 3) (check format.Text))
unfolding clap_on_literals number_of numeral_of in_64_bits
check_of_a_process c = refl

storm_of_four : (c : Choices)
    → doings_asked (program c) (codes "numaplan" ∷ codes "storm" ∷ codes "--workers=4" ∷ [])
    ≡ Some (storm 4)
unfolding clap_on_literals
storm_of_four c = refl

too_many_workers : (c : Choices)
    → doings_asked (program c) (codes "numaplan" ∷ codes "storm" ∷ codes "--workers=17" ∷ []) ≡ None
unfolding clap_on_literals
too_many_workers c = refl

no_words : (c : Choices) → fault_of (program c) (codes "numaplan" ∷ [])
    ≡ kind.DisplayHelpOnMissingArgumentOrSubcommand ∷ []
unfolding clap_on_literals
no_words c = refl

help_of_run : (c : Choices)
    → fault_of (program c) (codes "numaplan" ∷ codes "run" ∷ codes "--help" ∷ []) ≡ kind.DisplayHelp
    ∷ []
unfolding clap_on_literals
help_of_run c = refl

-- addresses as answers print them, and as people type them
printed : address_of (codes "00011000") ≡ Some (record { value = 69632; hexadecimal = None })
unfolding number_of numeral_of in_64_bits
printed = refl

with_a_letter : address_of (codes "7f12a") ≡ Some (record { value = 520490; hexadecimal = None })
unfolding number_of numeral_of in_64_bits
with_a_letter = refl

seven_digits : address_of (codes "0011000")
    ≡ Some (record { value = 11000; hexadecimal = Some 69632 })
unfolding number_of numeral_of in_64_bits
seven_digits = refl

no_address : address_of (codes "0x1g") ≡ None
unfolding number_of numeral_of in_64_bits
no_address = refl

-- the task may be left out, and each node asked
explain_on_each_node : (c : Choices)
    → doings_asked (program c) (codes "numaplan" ∷ codes "explain" ∷ codes "--cpu" ∷ codes "all"
    ∷ codes "0x11000" ∷ codes "a" ∷ [])
    ≡ Some (scripts (codes "a" ∷ []) Document None (ask (record { task = None; cpu = Each })
    (explain [] (record { value = 69632; hexadecimal = None }) None format.Text) false false))
unfolding clap_on_literals number_of numeral_of in_64_bits
explain_on_each_node c = refl

no_picture_of_each_node : (c : Choices)
    → doings_asked (program c) (codes "numaplan" ∷ codes "predict" ∷ codes "--node" ∷ codes "all"
    ∷ codes "--format" ∷ codes "svg" ∷ [])
    ≡ None
unfolding clap_on_literals
no_picture_of_each_node c = refl
