use Rattle.std.proofs.Common.{lit<}
use Rattle.numa_blocks.specs.Blocks.{fits}
use Rattle.numa_blocks.proofs.Pushed.{few}
use Rattle.numa_blocks.proofs.orders.orders.Goals as goal

pub push-requires : goal.push-requires
push-requires c = (
  lit< tt,
  few (fits c.args.settings.now c.args.area.now c.args.gap.now c.args.page)
      c.large_orders-orders.result.items c.large_orders-orders.ensures,
)
