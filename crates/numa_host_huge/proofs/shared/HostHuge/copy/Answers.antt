use Rattle.std.proofs.Common.{List, [], sym, subst, ap, arith, ◌∙◌}
use Rattle.numa_host_huge.specs.Kept.{AreShared, HugeKept}
use Rattle.numa_host_huge.specs.Standing.{AreHomes, HugeLies}
use Rattle.numa_host_huge.specs.declared.sharer.Sharer.{Sharer}
use Rattle.numa_host_huge.proofs.Sized.{shared-copied}
use Rattle.numa_host_huge.proofs.shared.HostHuge.copy.Goals as goal

pub invariant_of-result : goal.invariant_of-result
invariant_of-result c = (
  shared-copied c.self.inside.pools c.deref.result.now c.in-Ok.sharers.items
      c.add_again.new.copies.items c.in-Ok.ensures.items
      (subst (λ (xs : List Sharer). AreShared c.self.inside.pools xs)
      (sym c.deref.ensures.value) c.self.invariant.0) c.in-Ok-add_again.ensures.on
      c.in-Ok-add_again.ensures.reserved c.in-Ok-add_again.ensures.length,
  omega (arith, c.in-Ok.ensures.capacity, c.add_again.ensures.room),
)

pub returns : goal.returns
returns c = λ at lies.
    let inside = subst (λ (k : HugeKept). HugeLies k at) (sym c.self.view_is) lies in
    record {
      pools = inside.pools;
      homes = c.in-Ok-add_again.ensures.added [] at.homes (rw c.in-Ok.ensures.items tt)
          (subst (λ (xs : List Sharer). AreHomes xs at.homes) (sym c.deref.ensures.value)
          inside.homes);
    }
