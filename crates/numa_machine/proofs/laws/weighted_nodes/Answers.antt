use Rattle.numa_machine.proofs.Blocks.{IsWeightedNode-weighted_node, weighted_node_is, length-cycle}
use Rattle.numa_machine.proofs.Blocks.{cycle_at}
use Rattle.numa_machine.proofs.laws.weighted_nodes.Goals as goal

pub returns-clause-is_one : goal.returns-clause-is_one
returns-clause-is_one c = IsWeightedNode-weighted_node

pub returns-clause-is_the_only_one : goal.returns-clause-is_the_only_one
returns-clause-is_the_only_one c = weighted_node_is

pub returns-clause-cycle_length : goal.returns-clause-cycle_length
returns-clause-cycle_length c = length-cycle

pub returns-clause-cycle_places : goal.returns-clause-cycle_places
returns-clause-cycle_places c = cycle_at
