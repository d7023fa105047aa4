use Rattle.std.proofs.Common.{ℕ, length, ap, arith}
use Rattle.numa_mask.specs.NodeSet.{has}
use Rattle.numa_space.proofs.ListSizes.{filter-short, order-short}
use Rattle.numa_space.proofs.space.Space.nearest.Goals as goal

pub push_within-requires : goal.push_within-requires
push_within-requires c =
    omega (
      arith,
      ap (length {A = ℕ}) c.new-list.ensures,
      filter-short (has c.args.set.now) c.order.result.now,
      ap (length {A = ℕ}) c.order.ensures.order,
      order-short c.self.inside.machine c.args.from,
    )
