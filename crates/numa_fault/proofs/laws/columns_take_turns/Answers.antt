use Rattle.numa_fault.proofs.Columns.{column-at}
use Rattle.numa_fault.proofs.laws.columns_take_turns.Goals as goal

pub returns-clause-requests : goal.returns-clause-requests
returns-clause-requests c = column-at

pub returns-clause-answers : goal.returns-clause-answers
returns-clause-answers c = column-at
