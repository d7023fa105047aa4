use Rattle.std.proofs.Common.{◌∙◌, ap, ap₂}
use Rattle.std.proofs.lemmas.Result.{IfOk-weaker}
use Rattle.clap.specs.Words.{Shape, with_subcommand}
use Rattle.numa_command_line.specs.Grammar.{bare_program, check_arguments, diff_arguments}
use Rattle.numa_command_line.specs.Grammar.{expect_arguments, explain_arguments, moves_arguments}
use Rattle.numa_command_line.specs.Grammar.{predict_arguments}
use Rattle.numa_command_line.specs.Grammar.{replay_arguments, report_arguments, rules}
use Rattle.numa_command_line.specs.Grammar.{run_arguments}
use Rattle.numa_command_line.specs.Grammar.{shell_arguments, storm_arguments, word}
use Rattle.numa_command_line.specs.Usage.{shape_said}
use Rattle.numa_command_line.proofs.Said.{reader_is, word_is}
use Rattle.numa_command_line.proofs.program.program.Goals as goal

pub returns : goal.returns
returns c =
    let option = c.argument-rules.ensures in
    let said = c.argument-rules.result.now in
    let run-app = with_subcommand bare_program (shape_said c.word.result.now said) in
    let check-app = with_subcommand run-app (shape_said c.word-2.result.now said) in
    let expect-app = with_subcommand check-app (shape_said c.word-3.result.now said) in
    let predict-app = with_subcommand expect-app (shape_said c.word-4.result.now said) in
    let diff-app = with_subcommand predict-app (shape_said c.word-5.result.now said) in
    let moves-app = with_subcommand diff-app (shape_said c.word-6.result.now said) in
    let explain-app = with_subcommand moves-app (shape_said c.word-7.result.now said) in
    let report-app = with_subcommand explain-app (shape_said c.word-8.result.now said) in
    let replay-app = with_subcommand report-app (shape_said c.word-9.result.now said) in
    let shell-app = with_subcommand replay-app (shape_said c.word-10.result.now said) in
    let run-so = c.with_word-program.ensures.app bare_program c.bare.ensures.app in
    let check-so = c.with_word-program-2.ensures.app run-app run-so in
    let expect-so = c.with_word-program-3.ensures.app check-app check-so in
    let predict-so = c.with_word-program-4.ensures.app expect-app expect-so in
    let diff-so = c.with_word-program-5.ensures.app predict-app predict-so in
    let moves-so = c.with_word-program-6.ensures.app diff-app diff-so in
    let explain-so = c.with_word-program-7.ensures.app moves-app moves-so in
    let report-so = c.with_word-program-8.ensures.app explain-app explain-so in
    let replay-so = c.with_word-program-9.ensures.app report-app report-so in
    let shell-so = c.with_word-program-10.ensures.app replay-app replay-so in
    let run = ap (λ (shape : Shape). with_subcommand bare_program shape)
    (reader_is c.word.result.now said option.0 _ (run_arguments c.word.ensures.0)
    c.word.ensures.2 option.2) in
    let check = ap₂ with_subcommand run
    (reader_is c.word-2.result.now said option.0 _ (check_arguments c.word-2.ensures.0)
    c.word-2.ensures.2 option.2) in
    let expect = ap₂ with_subcommand check
    (reader_is c.word-3.result.now said option.0 _ (expect_arguments c.word-3.ensures.0)
    c.word-3.ensures.2 option.2) in
    let predict = ap₂ with_subcommand expect
    (reader_is c.word-4.result.now said option.0 _ (predict_arguments c.word-4.ensures.0)
    c.word-4.ensures.2 option.2) in
    let diff = ap₂ with_subcommand predict
    (reader_is c.word-5.result.now said option.0 _ (diff_arguments c.word-5.ensures.0)
    c.word-5.ensures.2 option.2) in
    let moves = ap₂ with_subcommand diff
    (reader_is c.word-6.result.now said option.0 _ (moves_arguments c.word-6.ensures.0)
    c.word-6.ensures.2 option.2) in
    let explain = ap₂ with_subcommand moves
    (reader_is c.word-7.result.now said option.0 _ (explain_arguments c.word-7.ensures.0)
    c.word-7.ensures.2 option.2) in
    let report = ap₂ with_subcommand explain
    (reader_is c.word-8.result.now said option.0 _ report_arguments c.word-8.ensures option.2) in
    let replay = ap₂ with_subcommand report
    (reader_is c.word-9.result.now said option.0 _ (replay_arguments c.word-9.ensures.0)
    c.word-9.ensures.2 option.2) in
    let shell = ap₂ with_subcommand replay
    (reader_is c.word-10.result.now said option.0 _ shell_arguments c.word-10.ensures option.2) in
    IfOk-weaker c.with_word.result _ _ (λ command app. (
      record {
        run = c.word.ensures.0;
        check = c.word-2.ensures.0;
        expect = c.word-3.ensures.0;
        predict = c.word-4.ensures.0;
        diff = c.word-5.ensures.0;
        moves = c.word-6.ensures.0;
        explain = c.word-7.ensures.0;
        replay = c.word-9.ensures.0;
        rules = option.0;
      },
      record {
        run = c.word.ensures.1;
        check = c.word-2.ensures.1;
        expect = c.word-3.ensures.1;
        predict = c.word-4.ensures.1;
        diff = c.word-5.ensures.1;
        moves = c.word-6.ensures.1;
        explain = c.word-7.ensures.1;
        replay = c.word-9.ensures.1;
        rules = option.1;
      },
      app ∙ ap₂ with_subcommand shell
          (word_is c.word-11.result.now said _ storm_arguments c.word-11.ensures),
    )) (c.with_word.ensures.app shell-app shell-so)
