use Rattle.std.proofs.Common.{ap, sym, subst}
use Rattle.numa_ranges.specs.declared.run.Run.{Run}
use Rattle.std.proofs.Common.{List}
use Rattle.numa_huge.specs.Huge.{HugePlaced, huge_at}
use Rattle.numa_huge.specs.Kept.{ArePooled}
use Rattle.numa_huge.specs.declared.spot.HugeSpot.{HugeSpot}
use Rattle.numa_huge.proofs.places.HugePlaces.lend.Goals as goal

pub invariant_of-self : goal.invariant_of-self
invariant_of-self c = (
  c.requires.0,
  record {
    own = c.self.invariant.1.own;
    pooled = subst (λ (p : HugePlaced). ArePooled c.requires.0 c.args.pools.now (huge_at p.runs))
        (sym c.self.view_is) c.requires.1;
  },
  c.self.invariant.2,
)

pub returns-clause-runs : goal.returns-clause-runs
returns-clause-runs c = ap (λ (p : HugePlaced). p.runs) c.self.view_is
