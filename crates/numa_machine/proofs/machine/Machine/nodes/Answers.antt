use Rattle.numa_machine.proofs.NoFault.{some_nodes, few_nodes}
use Rattle.numa_machine.proofs.machine.Machine.nodes.Goals as goal

pub returns-clause-at_least : goal.returns-clause-at_least
returns-clause-at_least c = some_nodes _ _ _ _ c.self.invariant.no_fault

pub returns-clause-at_most : goal.returns-clause-at_most
returns-clause-at_most c = few_nodes _ _ _ _ c.self.invariant.no_fault
