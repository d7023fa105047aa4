use Rattle.std.proofs.Common.{arith}
use Rattle.std.proofs.lemmas.Result.{err_from_is_err_and}
use Rattle.numa_reports.specs.Lying.{spots_in}
use Rattle.numa_reports.proofs.There.{few-there, range-lies}
use Rattle.numa_reports.proofs.prediction.predict_next.Goals as goal

pub move_counts-requires-clause-few : goal.move_counts-requires-clause-few
move_counts-requires-clause-few g c = few-there c.args.asked.plan.now (spots_in c.args.asked.placed)
    c.args.asked.touch.task c.args.asked.touch.cpu c.args.range.now.first c.args.range.now.pages
    c.count_there.new.counts (omega arith) c.in_ok-count_there.ensures.counts

pub move_counts-requires-clause-room : goal.move_counts-requires-clause-room
move_counts-requires-clause-room g c node small =
    omega (arith, c.in_ok-count_there.ensures.counts node small, c.requires.room node small)

pub returns-clause-all : goal.returns-clause-all
returns-clause-all g c node small =
    omega (
      arith,
      c.in_ok-count_there.ensures.counts node small,
      c.move_counts.ensures.moved node small,
    )

pub returns-clause-told : goal.returns-clause-told
returns-clause-told g c history stands planned = (
  record { policy = c.policy_of-said.result; counts = c.count_there.new.counts },
  record {
    policy = c.policy_of-said.ensures history stands;
    counts = λ node small.
        omega (
          arith,
          c.in_ok-count_there.ensures.counts node small,
          range-lies c.args.asked.space.now c.args.asked.plan.now history (spots_in
              c.args.asked.placed)
              c.args.asked.touch.task c.args.asked.touch.cpu node stands planned c.requires.known
              c.args.range.now c.requires.pages,
        );
  },
  c.in_ok-take.ensures.tells,
)

pub returns-in_err-count_there-clause-err : goal.returns-in_err-count_there-clause-err
returns-in_err-count_there-clause-err g c =
    let exit = err_from_is_err_and c.from_residual.result c.from_residual.ensures.1 in
    rw (exit.1, exit.2) c.in_err-count_there.ensures.err

pub returns-in_err-take-clause-err : goal.returns-in_err-take-clause-err
returns-in_err-take-clause-err g c =
    let exit = err_from_is_err_and c.from_residual-in_err-take.result
    c.from_residual-in_err-take.ensures.1 in
    rw (exit.1, exit.2) tt

pub returns-in_err-count_there-clause-lack : goal.returns-in_err-count_there-clause-lack
returns-in_err-count_there-clause-lack g c =
    let exit = err_from_is_err_and c.from_residual.result c.from_residual.ensures.1 in
    rw (exit.1, exit.2) (λ is. absurd (let odd = is in cc))

pub returns-in_err-take-clause-lack : goal.returns-in_err-take-clause-lack
returns-in_err-take-clause-lack g c =
    let exit = err_from_is_err_and c.from_residual-in_err-take.result
    c.from_residual-in_err-take.ensures.1 in
    rw (exit.1, exit.2) (λ is. c.in_err-take.ensures.lack)
