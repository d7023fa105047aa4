use Rattle.numa_refinement.proofs.Falling.{again-exhausted, again-won}
use Rattle.numa_refinement.proofs.laws.a_fault_leaves_its_worker_ready.Goals as goal

pub returns-clause-exhausted : goal.returns-clause-exhausted
returns-clause-exhausted c s w history longer request first next before after turns version falls
    found leaves same known more =
    again-exhausted s w history request first before after turns falls version found longer next
    leaves same known more

pub returns-clause-won : goal.returns-clause-won
returns-clause-won c s w history longer request first next before after turns placement falls places
    leaves same known more =
    again-won s w history request first before after turns falls placement places longer next leaves
    same known more
