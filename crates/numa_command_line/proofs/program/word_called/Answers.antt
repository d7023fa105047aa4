use Rattle.numa_command_line.proofs.Said.{check_called, diff_called, expect_called}
use Rattle.numa_command_line.proofs.Said.{explain_called, moves_called, predict_called}
use Rattle.numa_command_line.proofs.Said.{replay_called, report_called, run_called, shell_called}
use Rattle.numa_command_line.proofs.Said.{storm_called}
use Rattle.numa_command_line.proofs.program.word_called.Goals as goal

pub returns-in-run : goal.returns-in-run
returns-in-run c =
    run_called c.args.name.now c.word.result.now c.in-run.is
    c.word.ensures

pub returns-in-check : goal.returns-in-check
returns-in-check c =
    check_called c.args.name.now c.word-in-check.result.now c.in-check.is
    c.word-in-check.ensures

pub returns-in-expect : goal.returns-in-expect
returns-in-expect c =
    expect_called c.args.name.now c.word-in-expect.result.now c.in-expect.is
    c.word-in-expect.ensures

pub returns-in-predict : goal.returns-in-predict
returns-in-predict c =
    predict_called c.args.name.now c.word-in-predict.result.now c.in-predict.is
    c.word-in-predict.ensures

pub returns-in-diff : goal.returns-in-diff
returns-in-diff c =
    diff_called c.args.name.now c.word-in-diff.result.now c.in-diff.is
    c.word-in-diff.ensures

pub returns-in-moves : goal.returns-in-moves
returns-in-moves c =
    moves_called c.args.name.now c.word-in-moves.result.now c.in-moves.is
    c.word-in-moves.ensures

pub returns-in-explain : goal.returns-in-explain
returns-in-explain c =
    explain_called c.args.name.now c.word-in-explain.result.now c.in-explain.is
    c.word-in-explain.ensures

pub returns-in-report : goal.returns-in-report
returns-in-report c =
    report_called c.args.name.now c.word-in-report.result.now c.in-report.is
    c.word-in-report.ensures

pub returns-in-replay : goal.returns-in-replay
returns-in-replay c =
    replay_called c.args.name.now c.word-in-replay.result.now c.in-replay.is
    c.word-in-replay.ensures

pub returns-in-shell : goal.returns-in-shell
returns-in-shell c =
    shell_called c.args.name.now c.word-in-shell.result.now c.in-shell.is
    c.word-in-shell.ensures

pub returns-in-storm : goal.returns-in-storm
returns-in-storm c =
    storm_called c.args.name.now c.word-in-storm.result.now c.in-storm.is
    c.word-in-storm.ensures
