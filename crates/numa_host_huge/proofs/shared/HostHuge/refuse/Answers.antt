use Rattle.std.proofs.Common.{sym, subst, ap, ◌∙◌}
use Rattle.numa_pools.specs.Pools.{PoolCounts, refusing}
use Rattle.numa_host_huge.specs.Kept.{HugeKept}
use Rattle.numa_host_huge.specs.Standing.{HugeLies}
use Rattle.numa_host_huge.proofs.Sized.{shared-refused}
use Rattle.numa_host_huge.proofs.shared.HostHuge.refuse.Goals as goal

pub invariant_of-self : goal.invariant_of-self
invariant_of-self c = (
  shared-refused c.self.inside.pools c.refuse.new.self c.self.inside.sharers.items c.args.pages
      c.keep.ensures c.keep-2.ensures c.self.invariant.0 c.refuse.ensures,
  c.self.invariant.1,
)

pub returns : goal.returns
returns c = λ at lies.
    let inside = subst (λ (k : HugeKept). HugeLies k at) (sym c.self.view_is) lies in
    record {
      pools = c.refuse.ensures
          ∙ ap (λ (p : PoolCounts). refusing p c.args.pages) inside.pools;
      homes = inside.homes;
    }
