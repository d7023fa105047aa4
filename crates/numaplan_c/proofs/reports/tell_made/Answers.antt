use Rattle.std.proofs.Common.{◌≡◌, ℕ, true, IfErr, Result, Ok, Err, refl, subst}
use Rattle.numaplan_reports.specs.declared.report.Report.{Report}
use Rattle.numaplan_c.specs.Reports.{is_untold}
use Rattle.numaplan_c.proofs.reports.tell_made.Goals as goal

pub returns-in-Ok : goal.returns-in-Ok
returns-in-Ok c = (Ok c.in-Ok.said, c.tell-code.ensures)

pub returns-in-Err : goal.returns-in-Err
returns-in-Err c =
    let untold : is_untold c.in-Err.code ≡ true =
    subst (λ (made : Result Report ℕ). IfErr made (λ code. is_untold code ≡ true)) c.in-Err.is
    c.requires.err in
    (Err c.in-Err.code, (refl, untold, refl, refl))
