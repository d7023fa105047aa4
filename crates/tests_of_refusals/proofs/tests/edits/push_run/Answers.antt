use Rattle.std.proofs.Common.{◌*◌, Some, arith}
use Rattle.tests_of_refusals.proofs.RunsApart.{pushed-apart}
use Rattle.tests_of_refusals.proofs.tests.edits.push_run.Goals as goal

pub push_run-requires-clause-apart : goal.push_run-requires-clause-apart
push_run-requires-clause-apart c =
    pushed-apart c.args.plan.now.runs c.window-from.result.0 c.window-from.result.1
    (record {
      first = c.from-first.result * 16;
      pages = 8;
      index = 3;
      value =
          Some c.args.place;
    })
    c.run_count-runs.ensures.apart (c.window-from.ensures.window (omega arith))
    (omega (arith, c.run_count-runs.ensures.count, c.if-from-runs.false)) (omega arith)
    (omega arith) (omega (arith, c.from-first.ensures, c.requires.few))
