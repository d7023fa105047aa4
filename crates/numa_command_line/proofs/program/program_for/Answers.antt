use Rattle.std.proofs.Common.{◌∷◌, ◌∙◌, ap, subst, sym}
use Rattle.std.proofs.lemmas.Result.{IfOk-weaker}
use Rattle.clap.specs.Words.{app_of, is_simple_and_free}
use Rattle.numa_command_line.specs.Grammar.{StandsIn, bare_program}
use Rattle.numa_command_line.proofs.Standing.{called_simple, called_stands, program_stands}
use Rattle.numa_command_line.proofs.program.program_for.Goals as goal

pub returns-in_default-clause-same : goal.returns-in_default-clause-same
returns-in_default-clause-same c =
    IfOk-weaker c.program.result _ _ (λ command is first rest.
    program_stands (app_of command) is (first ∷ c.args.name.now ∷ rest)) c.program.ensures

pub returns-clause-simple : goal.returns-clause-simple
returns-clause-simple c =
    let option = c.argument-rules.ensures in
    IfOk-weaker c.with_word.result _ _ (λ command is. ap (λ app. is_simple_and_free app) is
    ∙ called_simple c.args.name.now c.in-Some.word.now c.argument-rules.result.now option.0 option.2
    c.in-Some.ensures) (c.with_word.ensures.app bare_program c.bare.ensures.app)

pub returns-clause-same : goal.returns-clause-same
returns-clause-same c =
    let option = c.argument-rules.ensures in
    IfOk-weaker c.with_word.result _ _ (λ command is first rest.
    subst (StandsIn (first ∷ c.args.name.now ∷ rest)) (sym is)
    (called_stands c.args.name.now c.in-Some.word.now c.argument-rules.result.now option.0 option.1
    option.2 c.in-Some.ensures first rest))
    (c.with_word.ensures.app bare_program c.bare.ensures.app)
