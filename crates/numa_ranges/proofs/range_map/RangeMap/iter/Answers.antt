-- The kept runs are the ranges, and the only list of maximal runs with these pages.
use Rattle.std.proofs.Common.{ap}
use Rattle.numa_ranges.proofs.Laws.{contains-range, range-contains, same-runs}
use Rattle.numa_ranges.proofs.range_map.RangeMap.iter.Goals as goal

pub returns-clause-ranges : goal.returns-clause-ranges
returns-clause-ranges g c run =
    rw (← (ap (λ v. v.runs) c.self.view_is)) (
      contains-range g.T.PartialEq.eq g.met.T.Exact.exact g.met.T.Eq.laws.refl c.self.inside.runs
          run c.self.invariant.0 c.self.invariant.1,
      range-contains g.T.PartialEq.eq g.met.T.Exact.exact g.met.T.Eq.laws.refl c.self.inside.runs
          run c.self.invariant.0 c.self.invariant.1,
    )

pub returns-clause-alone : goal.returns-clause-alone
returns-clause-alone g c others apart maximal agree =
    let now = ap (λ v. v.runs) c.self.view_is in
    same-runs g.T.PartialEq.eq g.met.T.Exact.exact g.met.T.Eq.laws.refl 0 others
    c.args.self.now.runs apart (rw (← now) c.self.invariant.0) maximal
    (rw (← now) c.self.invariant.1) agree
