use Rattle.std.proofs.Common.{arith}
use Rattle.numa_run.proofs.Parts.{far-part}
use Rattle.numa_run.proofs.running.is_huge_part.Goals as goal

pub returns-then-page-ge-MOST_SMALL : goal.returns-then-page-ge-MOST_SMALL
returns-then-page-ge-MOST_SMALL c = λ memory stands.
    far-part memory c.args.page (omega (arith, c.if-page-ge-MOST_SMALL.true))
