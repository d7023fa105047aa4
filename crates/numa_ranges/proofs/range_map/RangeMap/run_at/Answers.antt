-- The last run that starts at the page or before it holds the page, or none does.
use Rattle.std.proofs.Common.{arith, sym, ap}
use Rattle.numa_ranges.proofs.Apart.{page_at-none, page_at-missed, holds}
use Rattle.numa_ranges.proofs.range_map.RangeMap.run_at.Goals as goal

pub returns-then-count-eq0 : goal.returns-then-count-eq0
returns-then-count-eq0 g c =
    let found = c.starts_up_to-count.ensures in
    page_at-none 0 c.args.self.now.runs c.args.page found.apart
    (λ k d low high. found.parts.1 k d (omega arith) high)

pub returns-then-page-run : goal.returns-then-page-run
returns-then-page-run g c =
    let found = c.starts_up_to-count.ensures in
    holds c.args.self.now.runs c.starts_up_to-count.result c.args.page c.get-run.result found.apart
    found.within found.parts c.if-count-eq0.false
    (rw (← (ap (λ v. v.runs) c.self.view_is)) (c.get-run.ensures c.get-run.result))
    c.if-page-run.true

pub returns-else-page-run : goal.returns-else-page-run
returns-else-page-run g c =
    let found = c.starts_up_to-count.ensures in
    sym (page_at-missed c.args.self.now.runs c.starts_up_to-count.result c.args.page
    c.get-run.result found.apart found.within found.parts c.if-count-eq0.false
    (rw (← (ap (λ v. v.runs) c.self.view_is)) (c.get-run.ensures c.get-run.result))
    c.if-page-run.false)
