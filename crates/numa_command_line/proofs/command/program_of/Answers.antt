use Rattle.std.proofs.Common.{map}
use Rattle.std.specs.String.{string_bytes}
use Rattle.std.proofs.lemmas.Result.{IfOk-weaker}
use Rattle.clap.specs.Words.{app_of}
use Rattle.numa_command_line.specs.Grammar.{StandsIn}
use Rattle.numa_command_line.proofs.Naming.{behind_first, second_is}
use Rattle.numa_command_line.proofs.Standing.{program_stands}
use Rattle.numa_command_line.proofs.command.program_of.Goals as goal

pub returns-in-Some-clause-same : goal.returns-in-Some-clause-same
returns-in-Some-clause-same c =
    let got = c.in-Some.ensures.lookup in
    let word = second_is c.args.words.now c.in-Some.name.now c.as_str.result.now got.3.0 got.1
    c.as_str.ensures.value in
    IfOk-weaker c.program_for.result _ _ (λ command same.
    behind_first (λ line. StandsIn line (app_of command)) (map string_bytes c.args.words.now)
    c.as_str.result.now word same) c.program_for.ensures.same

pub returns-in-None-clause-same : goal.returns-in-None-clause-same
returns-in-None-clause-same c =
    IfOk-weaker c.program.result _ _ (λ command is.
    program_stands (app_of command) is (map string_bytes c.args.words.now)) c.program.ensures
