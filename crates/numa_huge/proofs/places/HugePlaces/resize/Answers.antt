use Rattle.std.proofs.Common.{ap, ◌∙◌}
use Rattle.numa_pools.specs.Resize.{resized}
use Rattle.numa_huge.specs.Huge.{HugePlaced}
use Rattle.numa_huge.proofs.Keeping.{kept-resized}
use Rattle.numa_huge.proofs.places.HugePlaces.resize.Goals as goal

pub invariant_of-self : goal.invariant_of-self
invariant_of-self c = (
  c.self.invariant.0,
  kept-resized c.self.invariant.0 c.self.inside.pools c.resize.new.self c.self.inside.map.runs
      c.args.nodes.now c.args.allowed.now c.args.count c.keep.ensures c.self.invariant.1
      c.resize.ensures,
  c.self.invariant.2,
)

pub returns-clause-pools : goal.returns-clause-pools
returns-clause-pools c =
    c.resize.ensures ∙ ap (λ (p : HugePlaced). resized c.args.nodes.now c.args.allowed.now
    c.args.count p.pools) c.self.view_is
