use Rattle.std.proofs.Common.{◌≡◌, ℕ, ◌+◌, ◌++◌, ◌∙◌, List, [], get_or, drop, sym, ap}
use Rattle.std.proofs.lemmas.List.{append-nil, drop_all, drop_more}
use Rattle.std.proofs.lemmas.Result.{err_from_is_err_and}
use Rattle.numa_reports.specs.Differences.{moves_over}
use Rattle.numa_reports.specs.Moved.{planned_moves}
use Rattle.numa_reports.specs.declared.outlook.PageSpan.{PageSpan}
use Rattle.numa_reports.proofs.Differing.{some-fails, span-moves}
use Rattle.numa_reports.proofs.differences.moves_of.Goals as goal

pub returns-in_err-push_span-clause-err : goal.returns-in_err-push_span-clause-err
returns-in_err-push_span-clause-err c =
    let exit = err_from_is_err_and c.from_residual-in_err-push_span.result
    c.from_residual-in_err-push_span.ensures.1 in
    let d : PageSpan = record { first = 0; pages = 0 } in
    rw (exit.1, exit.2) (some-fails c.args.change.before.now c.args.change.after.now
    c.args.spans.now
    c.loop-span.span-index d c.args.change.touch.cpu c.in_err-push_span.field-0.0
    c.loop-span-test.true
    c.in_err-push_span.ensures.err)

pub loop-span-preserved : goal.loop-span-preserved
loop-span-preserved c =
    let d : PageSpan = record { first = 0; pages = 0 } in
    let count : PageSpan → ℕ → ℕ → ℕ = λ span. planned_moves c.args.change.before.now
    c.args.change.after.now
    c.args.change.touch.task span.first span.pages c.args.change.touch.cpu in
    record {
      moves = span-moves count c.args.nodes.0 c.args.nodes.1
          (drop c.loop-span.span-index c.args.spans.now)
          (drop (c.loop-span.span-index + 1) c.args.spans.now) c.args.spans.now
          (get_or c.args.spans.now c.loop-span.span-index d) c.loop-span.moves.items
          c.push_span.new.moves.items
          (drop_more c.args.spans.now c.loop-span.span-index d c.loop-span-test.true)
          c.in_ok-push_span.ensures.moves c.loop-span.invariant.moves;
      none = c.in_ok-push_span.ensures.none;
    }

pub returns-clause-moves : goal.returns-clause-moves
returns-clause-moves c =
    let count : PageSpan → ℕ → ℕ → ℕ = λ span. planned_moves c.args.change.before.now
    c.args.change.after.now
    c.args.change.touch.task span.first span.pages c.args.change.touch.cpu in
    let none : drop c.loop-span.span-index c.args.spans.now ≡ [] =
    drop_all c.loop-span.span-index c.args.spans.now c.loop-span-test.false in
    sym (append-nil c.loop-span.moves.items)
    ∙ ap (λ (l : List PageSpan). c.loop-span.moves.items
    ++ moves_over count c.args.nodes.0 c.args.nodes.1 l) (sym none)
    ∙ c.loop-span.invariant.moves
