use Rattle.numa_machine.specs.declared.fallback.Fallback.TheVariants.{Nearest, Kernel}
use Rattle.numa_machine.proofs.NoFault.{few_nodes, memory_within}
use Rattle.numa_machine.proofs.Stored.{orders_of_machine}
use Rattle.numa_machine.proofs.machine.Machine.orders_by.Goals as goal

pub distance_orders-requires-clause-nodes : goal.distance_orders-requires-clause-nodes
distance_orders-requires-clause-nodes c = few_nodes _ _ _ _ c.self.invariant.no_fault

pub distance_orders-requires-clause-memory : goal.distance_orders-requires-clause-memory
distance_orders-requires-clause-memory c = memory_within _ _ _ _ c.self.invariant.no_fault

pub kernel_orders-requires-clause-nodes : goal.kernel_orders-requires-clause-nodes
kernel_orders-requires-clause-nodes c = few_nodes _ _ _ _ c.self.invariant.no_fault

pub kernel_orders-requires-clause-memory : goal.kernel_orders-requires-clause-memory
kernel_orders-requires-clause-memory c = memory_within _ _ _ _ c.self.invariant.no_fault

pub returns-in-Nearest : goal.returns-in-Nearest
returns-in-Nearest c = rw c.in-Nearest.is
    (orders_of_machine c.distance_orders.result _ c.args.self.now c.as_slice-table.result.now
    Nearest c.self.view_is c.as_slice-table.ensures.value c.distance_orders.ensures)

pub returns-in-Kernel : goal.returns-in-Kernel
returns-in-Kernel c = rw c.in-Kernel.is
    (orders_of_machine c.kernel_orders.result _ c.args.self.now c.as_slice-table.result.now
    (Kernel c.in-Kernel.cpus) c.self.view_is c.as_slice-table.ensures.value
    c.kernel_orders.ensures)
