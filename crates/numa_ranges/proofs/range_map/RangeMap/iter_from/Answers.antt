-- The runs before the last that starts at the page or before it have no page from there on.
use Rattle.std.proofs.Common.{◌∙◌, ap, drop, sym, arith}
use Rattle.numa_ranges.proofs.Cut.{apart-lower}
use Rattle.numa_ranges.proofs.Walked.{walk-begins}
use Rattle.numa_ranges.proofs.range_map.RangeMap.iter_from.Goals as goal

pub returns-clause-pages : goal.returns-clause-pages
returns-clause-pages g c page low =
    let walked = walk-begins c.args.self.now.runs c.iter_near.result c.starts_near-place.result
    c.saturating_sub.result c.args.first c.starts_near-place.ensures.apart
    c.starts_near-place.ensures.within c.starts_near-place.ensures.parts (omega arith)
    (c.iter_near.ensures ∙ ap (λ v. drop c.saturating_sub.result v.runs) c.self.view_is) in
    sym (walked.ahead page low)

pub returns-clause-rising : goal.returns-clause-rising
returns-clause-rising g c =
    let walked = walk-begins c.args.self.now.runs c.iter_near.result c.starts_near-place.result
    c.saturating_sub.result c.args.first c.starts_near-place.ensures.apart
    c.starts_near-place.ensures.within c.starts_near-place.ensures.parts (omega arith)
    (c.iter_near.ensures ∙ ap (λ v. drop c.saturating_sub.result v.runs) c.self.view_is) in
    apart-lower 0 walked.apart.0 c.iter_near.result (omega arith) walked.apart.1
