-- The last row starts at the page or before it.
use Rattle.std.proofs.Common.{◌≤◌, arith, subst}
use Rattle.numa_ranges.specs.declared.row.Row.{Row}
use Rattle.numa_ranges.proofs.even.all_starts.Goals as goal

pub row_near-row-requires : goal.row_near-row-requires
row_near-row-requires c = omega (arith, c.row_count-count.ensures.len, c.if-count-eq0.false)

pub returns-clause-before : goal.returns-clause-before
returns-clause-before c d = subst (λ (r : Row). r.first ≤ c.args.page) (c.row_near-row.ensures d)
    c.if-page-row.false
