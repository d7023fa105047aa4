use Rattle.numa_core.proofs.CommandsOfExecutions.{past-accepted, past-counted, past-rises}
use Rattle.numa_core.proofs.CommandsOfExecutions.{past-same}
use Rattle.numa_core.proofs.laws.every_execution_has_commands.Goals as goal

pub returns-clause-accepted : goal.returns-clause-accepted
returns-clause-accepted c = past-accepted

pub returns-clause-counted : goal.returns-clause-counted
returns-clause-counted c = past-counted

pub returns-clause-same : goal.returns-clause-same
returns-clause-same c = past-same

pub returns-clause-rises : goal.returns-clause-rises
returns-clause-rises c = past-rises
