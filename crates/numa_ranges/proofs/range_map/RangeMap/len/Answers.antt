-- The ranges, counted page by page, are the runs of the list.
use Rattle.std.proofs.Common.{ap, sym, ◌∙◌}
use Rattle.numa_ranges.proofs.Counted.{range_count-length}
use Rattle.numa_ranges.proofs.range_map.RangeMap.len.Goals as goal

pub returns-clause-count : goal.returns-clause-count
returns-clause-count g c =
    rw (← (ap (λ v. v.runs) c.self.view_is))
    (c.len.ensures.len ∙ sym
    (range_count-length g.T.PartialEq.eq g.met.T.Exact.exact g.met.T.Eq.laws.refl
    c.self.inside.runs c.self.invariant.0 c.self.invariant.1))
