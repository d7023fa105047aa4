use Rattle.numa_machine.proofs.Blocks.{IsInterleaveNode-interleave_node, interleave_node_is}
use Rattle.numa_machine.proofs.laws.interleave_nodes.Goals as goal

pub returns-clause-is_one : goal.returns-clause-is_one
returns-clause-is_one c = IsInterleaveNode-interleave_node

pub returns-clause-is_the_only_one : goal.returns-clause-is_the_only_one
returns-clause-is_the_only_one c = interleave_node_is
