use Rattle.std.proofs.Common.{refl}
use Rattle.numa_host_huge.proofs.Sized.{shared-none}
use Rattle.numa_host_huge.proofs.shared.HostHuge.new.Goals as goal

pub invariant_of-result : goal.invariant_of-result
invariant_of-result c = (
  shared-none c.new.result c.args.machine.now.memory c.in-Ok.sharers.items c.new.ensures
      c.in-Ok.ensures.items,
  c.in-Ok.ensures.capacity,
)

pub returns : goal.returns
returns c = record { pools = c.new.ensures; homes = rw c.in-Ok.ensures.items tt }
