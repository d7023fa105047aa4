use Rattle.std.proofs.Common.{filter, drop}
use Rattle.numa_blocks.specs.Blocks.{fits, large_orders}
use Rattle.numa_blocks.proofs.Pushed.{pushed, room-left}
use Rattle.numa_blocks.proofs.orders.large_orders.Goals as goal

pub push_if-requires : goal.push_if-requires
push_if-requires c =
    room-left (fits c.args.settings.now c.args.area.now c.args.gap.now c.args.page)
    c.loop-order.orders.items
    (filter (fits c.args.settings.now c.args.area.now c.args.gap.now c.args.page)
    (drop c.loop-order.order-index large_orders)) c.loop-order.invariant

pub loop-order-preserved : goal.loop-order-preserved
loop-order-preserved c =
    pushed (fits c.args.settings.now c.args.area.now c.args.gap.now c.args.page) large_orders
    c.loop-order.order-index c.loop-order-test.true c.loop-order.orders.items
    c.push_if.new.orders.items
    (filter (fits c.args.settings.now c.args.area.now c.args.gap.now c.args.page) large_orders)
    c.fits-wanted.result c.fits-wanted.ensures c.push_if.ensures c.loop-order.invariant
