use Rattle.numa_space.proofs.RangeCounts.{count-task, count-weight, count-mems}
use Rattle.numa_space.proofs.laws.range_counts.Goals as goal

pub returns-clause-task : goal.returns-clause-task
returns-clause-task c = count-task

pub returns-clause-weight : goal.returns-clause-weight
returns-clause-weight c = count-weight

pub returns-clause-mems : goal.returns-clause-mems
returns-clause-mems c = count-mems
