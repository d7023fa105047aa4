use Rattle.std.proofs.Common.{ap, ◌∙◌}
use Rattle.numa_pools.specs.Pools.{refusing}
use Rattle.numa_huge.specs.Huge.{HugePlaced}
use Rattle.numa_huge.proofs.Keeping.{kept-refused}
use Rattle.numa_huge.proofs.places.HugePlaces.refuse.Goals as goal

pub invariant_of-self : goal.invariant_of-self
invariant_of-self c = (
  c.self.invariant.0,
  kept-refused c.self.invariant.0 c.self.inside.pools c.refuse.new.self c.self.inside.map.runs
      c.args.pages c.keep.ensures c.keep-2.ensures c.self.invariant.1 c.refuse.ensures,
  c.self.invariant.2,
)

pub returns-clause-pools : goal.returns-clause-pools
returns-clause-pools c =
    c.refuse.ensures
    ∙ ap (λ (p : HugePlaced). refusing p.pools c.args.pages) c.self.view_is
