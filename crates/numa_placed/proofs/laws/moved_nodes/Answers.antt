use Rattle.numa_placed.proofs.MovedNodes.{into, outside, same, stays}
use Rattle.numa_placed.proofs.laws.moved_nodes.Goals as goal

pub returns-clause-into : goal.returns-clause-into
returns-clause-into c = into

pub returns-clause-stays : goal.returns-clause-stays
returns-clause-stays c = stays

pub returns-clause-outside : goal.returns-clause-outside
returns-clause-outside c = outside

pub returns-clause-same : goal.returns-clause-same
returns-clause-same c = same
