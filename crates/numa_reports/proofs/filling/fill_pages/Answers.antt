use Rattle.std.proofs.Common.{◌≡◌, ℕ, ◌+◌, ◌-◌, arith, ap, sym, ◌∙◌}
use Rattle.numa_reports.specs.Filled.{free_behind}
use Rattle.std.proofs.lemmas.Result.{err_from_is_err_and}
use Rattle.numa_reports.specs.Lying.{asked_nodes}
use Rattle.numa_reports.proofs.Refusing.{page-refused}
use Rattle.numa_reports.proofs.Taking.{free-next, free-start}
use Rattle.numa_reports.proofs.filling.fill_pages.Goals as goal

pub loop-page-preserved : goal.loop-page-preserved
loop-page-preserved c =
    free-next (asked_nodes c.args.asked) c.loop-page.free
    c.fill_page.new.free c.loop-page.page (c.args.span.first + c.args.span.pages -
    (c.loop-page.page + 1))
    (c.args.span.first + c.args.span.pages - c.loop-page.page) c.in_ok-fill_page.ensures.free
    (omega (arith, c.loop-page-test.true))
    ∙ c.loop-page.invariant

pub returns-clause-free : goal.returns-clause-free
returns-clause-free c =
    let nodes = asked_nodes c.args.asked in
    let none : c.args.span.first + c.args.span.pages - c.loop-page.page ≡ 0 =
    omega (arith, c.loop-page-test.false) in
    sym (free-start nodes c.loop-page.free c.loop-page.page)
    ∙ sym (ap (λ (k : ℕ). free_behind nodes c.loop-page.free c.loop-page.page k) none)
    ∙ c.loop-page.invariant

pub returns-in_err-fill_page-clause-err : goal.returns-in_err-fill_page-clause-err
returns-in_err-fill_page-clause-err c =
    let exit = err_from_is_err_and c.from_residual.result c.from_residual.ensures.1 in
    rw (exit.1, exit.2) (page-refused c.args.asked.plan.now c.args.span.first c.args.span.pages
    c.loop-page.page
    c.args.asked.touch.cpu c.in_err-fill_page.field-0.0 c.in_err-fill_page.ensures.err (omega arith)
    (omega (arith, c.loop-page-test.true)))
