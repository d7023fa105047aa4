use Rattle.numa_machine.proofs.Loads.{loads-are}
use Rattle.numa_machine.proofs.Begins.{itself-first}
use Rattle.numa_machine.proofs.laws.kernel_orders.Goals as goal

pub returns-clause-itself_first : goal.returns-clause-itself_first
returns-clause-itself_first c = itself-first

pub returns-clause-loads : goal.returns-clause-loads
returns-clause-loads c = loads-are
