use Rattle.std.proofs.Common.{◌∙◌, sym, ap, drop}
use Rattle.numa_script.specs.Causes.{first_misfit}
use Rattle.numa_script.proofs.Columns.{first_misfit_no_words}
use Rattle.numa_script.proofs.malformed.first_misfit.Goals as goal

pub returns-in_default : goal.returns-in_default
returns-in_default c =
    let left = drop c.loop-parameter.parameter-index c.args.parameters.now in
    sym (first_misfit_no_words c.args.keyword left c.loop-parameter.column)
    ∙ ap (first_misfit c.args.keyword left c.loop-parameter.column)
    (sym c.in_default.ensures.steps.0)
    ∙ c.loop-parameter.invariant.0
