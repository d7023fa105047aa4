use Rattle.numa_machine.proofs.Nearest.{IsFallbackOrder-fallback_order, fallback_order_is}
use Rattle.numa_machine.proofs.Nearest.{fallback_order-nearest, fallback_order-kernel}
use Rattle.numa_machine.proofs.laws.fallback_orders.Goals as goal

pub returns-clause-is_one : goal.returns-clause-is_one
returns-clause-is_one c = IsFallbackOrder-fallback_order

pub returns-clause-is_the_only_one : goal.returns-clause-is_the_only_one
returns-clause-is_the_only_one c = fallback_order_is

pub returns-clause-nearest : goal.returns-clause-nearest
returns-clause-nearest c = fallback_order-nearest

pub returns-clause-kernel : goal.returns-clause-kernel
returns-clause-kernel c = fallback_order-kernel
