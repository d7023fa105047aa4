use Rattle.std.proofs.Common.{ℕ, ◌+◌, ◌*◌, ◌++◌, ◌∙◌, List, ap, arith}
use Rattle.std.proofs.lemmas.Result.{err_from_is_err_and}
use Rattle.numa_reports.specs.Moved.{moves_in, planned_moves}
use Rattle.numa_reports.proofs.Differing.{within-same}
use Rattle.numa_reports.proofs.Moving.{empty-room}
use Rattle.numa_reports.proofs.differences.push_span.Goals as goal

pub add_moves-requires-clause-room : goal.add_moves-requires-clause-room
add_moves-requires-clause-room c = empty-room c.args.table.now.items 65536 c.args.span.pages
    c.requires.none.0 (omega arith) c.requires.none.1 (omega arith)

pub returns-in_err-add_moves-clause-err : goal.returns-in_err-add_moves-clause-err
returns-in_err-add_moves-clause-err c =
    let exit = err_from_is_err_and c.from_residual.result c.from_residual.ensures.1 in
    rw (exit.1, exit.2) c.in_err-add_moves.ensures.err

pub returns-clause-moves : goal.returns-clause-moves
returns-clause-moves c =
    let planned = planned_moves c.args.change.before.now c.args.change.after.now
    c.args.change.touch.task
    c.args.span.first c.args.span.pages c.args.change.touch.cpu in
    c.in_ok-push_all.ensures
    ∙ ap (λ l. c.args.moves.now.items ++ l)
    (within-same (moves_in c.deref.result.now) planned c.args.span c.args.nodes.0
    c.args.nodes.1 c.requires.few.0 c.requires.few.1
    (λ from to f t. omega (
      arith,
      ap (λ (table : List ℕ). moves_in table from to) c.deref.ensures.value,
      c.in_ok-add_moves.ensures.planned from to f t,
      c.requires.none.1 (from * 256 + to) (omega arith),
    )))
