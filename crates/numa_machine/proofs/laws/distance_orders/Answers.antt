use Rattle.numa_machine.proofs.Nearest.{IsDistanceOrder-distance_order, distance_order_is}
use Rattle.numa_machine.proofs.laws.distance_orders.Goals as goal

pub returns-clause-is_one : goal.returns-clause-is_one
returns-clause-is_one c = IsDistanceOrder-distance_order

pub returns-clause-is_the_only_one : goal.returns-clause-is_the_only_one
returns-clause-is_the_only_one c = distance_order_is
