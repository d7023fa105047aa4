use Rattle.std.proofs.Common.{◌≡◌, ℕ, List, ◌-◌, ◌≤◌, arith, subst, sym}
use Rattle.std.proofs.lemmas.Result.{err_from_is_err_and}
use Rattle.numa_reports.specs.Moved.{HasRoomFor}
use Rattle.numa_reports.proofs.Refusing.{both-meant}
use Rattle.numa_reports.proofs.sheet.changes.push_span.Goals as goal

pub returns-in_err-add_moves-clause-err : goal.returns-in_err-add_moves-clause-err
returns-in_err-add_moves-clause-err g c machine old new was is =
    let exit = err_from_is_err_and c.from_residual.result c.from_residual.ensures.1 in
    rw (exit.1, exit.2)
    (both-meant machine c.args.change.before.now c.args.change.after.now old new c.args.span.first
    c.args.span.pages c.args.change.touch.cpu c.in_err-add_moves.field-0.0 was is
    c.in_err-add_moves.ensures.err)

pub returns-clause-room : goal.returns-clause-room
returns-clause-room g c =
    let few : c.args.span.pages ≤ c.args.difference.now.left = omega (arith, c.in-Some.ensures) in
    let same : c.args.difference.now.left - c.args.span.pages ≡ c.in-Some.left =
    omega (arith, c.in-Some.ensures) in
    let room : HasRoomFor c.add_moves.new.table.items c.in-Some.left =
    subst (λ (left : ℕ). HasRoomFor c.add_moves.new.table.items left) same
    (c.in_ok-add_moves.ensures.left c.args.difference.now.left c.requires few) in
    subst (λ (left : ℕ). HasRoomFor c.add.new.self.total.items left) (sym c.add.ensures.left)
    (subst (λ (items : List ℕ). HasRoomFor items c.in-Some.left)
    (sym (λ i. (c.add.ensures.total i).items)) room)
