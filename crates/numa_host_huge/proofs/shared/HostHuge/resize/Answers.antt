use Rattle.std.proofs.Common.{sym, subst, ap, ◌∙◌}
use Rattle.numa_pools.specs.Pools.{PoolCounts}
use Rattle.numa_pools.specs.Resize.{resized}
use Rattle.numa_host_huge.specs.Kept.{HugeKept}
use Rattle.numa_host_huge.specs.Standing.{HugeLies}
use Rattle.numa_host_huge.proofs.Sized.{shared-resized}
use Rattle.numa_host_huge.proofs.shared.HostHuge.resize.Goals as goal

pub invariant_of-self : goal.invariant_of-self
invariant_of-self c = (
  shared-resized c.self.inside.pools c.resize.new.self c.self.inside.sharers.items
      c.args.nodes.now c.args.allowed.now c.args.count c.keep.ensures c.self.invariant.0
      c.resize.ensures,
  c.self.invariant.1,
)

pub returns : goal.returns
returns c = λ at lies.
    let inside = subst (λ (k : HugeKept). HugeLies k at) (sym c.self.view_is) lies in
    record {
      pools = c.resize.ensures ∙ ap (λ (p : PoolCounts). resized c.args.nodes.now
          c.args.allowed.now c.args.count p) inside.pools;
      homes = inside.homes;
    }
