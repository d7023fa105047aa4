use Rattle.std.proofs.Common.{◌+◌, ◌*◌, Some, arith}
use Rattle.tests_of_refusals.proofs.RunsApart.{window-apart}
use Rattle.tests_of_refusals.proofs.tests.edits.splice.Goals as goal

pub splice_runs-requires-clause-apart : goal.splice_runs-requires-clause-apart
splice_runs-requires-clause-apart c =
    window-apart c.args.plan.now.runs c.window-from.result.0 c.window-from.result.1
    (record { first = c.from.result * 8 + 4; pages = 4; index = 5; value = Some c.args.place })
    c.run_count.ensures.apart (c.window-from.ensures.window (omega arith)) (omega arith)
    (omega arith) (omega (arith, c.from.ensures, c.requires))
