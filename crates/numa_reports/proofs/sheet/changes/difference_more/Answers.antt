use Rattle.std.proofs.Common.{ℕ, get_or, subst, sym}
use Rattle.std.proofs.lemmas.Result.{err_from_is_err_and}
use Rattle.numa_reports.specs.Failing.{MayFail}
use Rattle.numa_reports.specs.declared.outlook.PageSpan.{PageSpan}
use Rattle.numa_reports.proofs.Refusing.{common-mapped, moves-fail, shown-common}
use Rattle.numa_reports.proofs.sheet.changes.difference_more.Goals as goal

pub returns-in_err-push_span-clause-err : goal.returns-in_err-push_span-clause-err
returns-in_err-push_span-clause-err g c machine old new same was is =
    let items = c.deref-span-items.result.now in
    let d : PageSpan = record { first = 0; pages = 0 } in
    let span = get_or items c.loop-span.span-index d in
    let common = shown-common c.args.asked.before.now c.args.asked.after.now c.as_slice.result.now
    c.as_slice-2.result.now c.in_ok-spans.spans.items items c.as_slice.ensures.value
    c.as_slice-2.ensures.value c.deref-span-items.ensures.value was.rising is.rising
    c.in_ok-spans.ensures.common in
    let exit = err_from_is_err_and c.from_residual-in_err-push_span.result
    c.from_residual-in_err-push_span.ensures.1 in
    rw (exit.1, exit.2)
    (subst (λ (nodes : ℕ). MayFail nodes c.args.asked.touch.cpu c.in_err-push_span.field-0.0) (sym
    same)
    (moves-fail machine old new span.first span.pages c.args.asked.touch.cpu
    c.in_err-push_span.field-0.0
    (λ page low high. common-mapped machine old new c.args.asked.before.now c.args.asked.after.now
    items
    c.loop-span.span-index d page was is common c.loop-span-test.true low high)
    (c.in_err-push_span.ensures.err machine old new was.plan is.plan)))
