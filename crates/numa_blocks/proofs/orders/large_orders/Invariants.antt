use Rattle.std.proofs.Common.{◌≡◌, ◌++◌, drop, filter}
use Rattle.numa_blocks.specs.Blocks.{fits, large_orders}
use Rattle.numa_blocks.proofs.orders.large_orders.Given as goal

abbrev pub invariant-loop-order : goal.invariant-loop-order
invariant-loop-order l = l.orders.items
    ++ filter (fits l.settings l.area l.gap l.page) (drop l.order-index large_orders)
    ≡ filter (fits l.settings l.area l.gap l.page) large_orders
