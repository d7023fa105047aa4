use Rattle.std.proofs.Common.{◌+◌, arith, length, length-set, ◌∙◌}
use Rattle.std.proofs.lemmas.Result.{err_from_is_err_and}
use Rattle.numa_reports.proofs.Refusing.{page-refused}
use Rattle.numa_reports.proofs.filling.fill_few.Goals as goal

pub loop-k-preserved : goal.loop-k-preserved
loop-k-preserved c = length-set _ _ _ ∙ c.loop-k.invariant

pub returns-in_err-nodes : goal.returns-in_err-nodes
returns-in_err-nodes c =
    let exit = err_from_is_err_and c.from_residual.result c.from_residual.ensures.1 in
    record {
      err =
          rw (exit.1, exit.2) (page-refused c.args.asked.plan.now c.args.first (length
          c.args.nodes.now)
          (c.args.first + c.loop-k.k) c.args.asked.touch.cpu c.in_err-nodes.field-0.0
          c.in_err-nodes.ensures.err (omega arith)
          (omega (arith, c.loop-k-test.true, c.loop-k.invariant)));
    }
