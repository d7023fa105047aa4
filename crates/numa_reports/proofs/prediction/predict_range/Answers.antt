use Rattle.numa_compile.proofs.Replies.{span-meant}
use Rattle.numa_reports.proofs.prediction.predict_range.Goals as goal

pub returns-in-Err-clause-err : goal.returns-in-Err-clause-err
returns-in-Err-clause-err c history stands =
    (span-meant c.args.space.now.machine c.args.plan.now history stands c.args.range.now.first
    c.args.range.now.pages c.args.cpu c.in-Err.refusal).0 c.in-Err.ensures.err
