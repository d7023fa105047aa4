use Rattle.std.proofs.Common.{◌∙◌, ap, List}
use Rattle.std.proofs.lemmas.Result.{err_from_is_err_and}
use Rattle.numa_reports.specs.Common.{has_page}
use Rattle.numa_reports.specs.declared.outlook.PageSpan.{PageSpan}
use Rattle.numa_reports.proofs.Refusing.{range-mapped, spans-pages}
use Rattle.numa_reports.proofs.outlook.outlook_of.Goals as goal

pub returns-in_err-spans-clause-err : goal.returns-in_err-spans-clause-err
returns-in_err-spans-clause-err c =
    let exit = err_from_is_err_and c.from_residual.result c.from_residual.ensures.1 in
    rw (exit.1) exit.2

pub returns-in_err-plan-clause-err : goal.returns-in_err-plan-clause-err
returns-in_err-plan-clause-err c =
    let exit = err_from_is_err_and c.from_residual-in_err-plan.result
    c.from_residual-in_err-plan.ensures.1 in
    rw (exit.1) exit.2

pub returns-clause-outlook : goal.returns-clause-outlook
returns-clause-outlook c history stands = record {
  plan = c.in_ok-plan.ensures.stands history stands;
  rising = c.in_ok-spans.ensures.rising;
  pages = λ page. ap (λ (spans : List PageSpan). has_page spans page) c.in_ok-spans.ensures.spans
      ∙ spans-pages c.args.space.now.ranges page ∙ range-mapped c.args.space.now history page
      stands;
}
