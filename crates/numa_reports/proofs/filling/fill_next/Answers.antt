use Rattle.std.proofs.lemmas.Result.{err_from_is_err_and}
use Rattle.numa_reports.specs.Lying.{absent_nodes, asked_nodes, spots_in}
use Rattle.numa_reports.proofs.Beside.{both-fit}
use Rattle.numa_reports.proofs.Periods.{range-repeats}
use Rattle.numa_reports.proofs.filling.fill_next.Goals as goal

pub returns-in_err-fill_there-clause-err : goal.returns-in_err-fill_there-clause-err
returns-in_err-fill_there-clause-err g c =
    let exit = err_from_is_err_and c.from_residual.result c.from_residual.ensures.1 in
    rw (exit.1, exit.2) c.in_err-fill_there.ensures.err

pub returns-in_err-take-clause-err : goal.returns-in_err-take-clause-err
returns-in_err-take-clause-err g c =
    let exit = err_from_is_err_and c.from_residual-in_err-take.result
    c.from_residual-in_err-take.ensures.1 in
    rw (exit.1, exit.2) tt

pub returns-in_err-fill_there-clause-lack : goal.returns-in_err-fill_there-clause-lack
returns-in_err-fill_there-clause-lack g c =
    let exit = err_from_is_err_and c.from_residual.result c.from_residual.ensures.1 in
    rw (exit.1, exit.2) (λ is. absurd (let odd = is in cc))

pub returns-in_err-take-clause-lack : goal.returns-in_err-take-clause-lack
returns-in_err-take-clause-lack g c =
    let exit = err_from_is_err_and c.from_residual-in_err-take.result
    c.from_residual-in_err-take.ensures.1 in
    rw (exit.1, exit.2) (λ is. c.in_err-take.ensures.lack)

pub returns-clause-free : goal.returns-clause-free
returns-clause-free g c history stands planned = c.in_ok-fill_there.ensures.free
    (range-repeats c.args.asked.space.now c.args.asked.plan.now history c.args.asked.touch.task
    c.args.asked.touch.cpu
    c.period_in-period.result c.args.range.now c.policy_of-policy.result stands planned
    c.requires.known c.requires.pages
    (c.policy_of-policy.ensures history stands) (c.period_in-period.ensures.meaning history stands))

pub returns-clause-told : goal.returns-clause-told
returns-clause-told g c history stands planned =
    let free = returns-clause-free g c history stands planned in (
      record { policy = c.policy_of-policy.result; counts = c.counts_behind.result },
      record {
        policy = c.policy_of-policy.ensures history stands;
        counts = λ node small. c.counts_behind.ensures node small
            (both-fit c.args.asked.placed (absent_nodes (spots_in c.args.asked.placed)
            (asked_nodes c.args.asked)) c.args.free.now
            c.fill_there.new.free c.args.range.now.first c.args.range.now.pages node free
            c.requires.small);
      },
      c.in_ok-take.ensures.tells,
    )
