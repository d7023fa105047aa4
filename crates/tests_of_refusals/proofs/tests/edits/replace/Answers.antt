use Rattle.std.proofs.Common.{◌+◌, ◌*◌, None, arith}
use Rattle.tests_of_refusals.proofs.RunsApart.{window-apart}
use Rattle.tests_of_refusals.proofs.tests.edits.replace.Goals as goal

pub replace_runs-requires-clause-apart : goal.replace_runs-requires-clause-apart
replace_runs-requires-clause-apart c =
    window-apart c.args.plan.now.runs c.window_near-from.result.0 c.window_near-from.result.1
    (record { first = c.from.result * 8 + 4; pages = 4; index = 6; value = None })
    c.run_count.ensures.apart (c.window_near-from.ensures (omega arith)) (omega arith) (omega arith)
    (omega (arith, c.from.ensures, c.requires))
