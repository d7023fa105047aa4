use Rattle.numa_refinement.proofs.Falling.{exhausts, wins, owns}
use Rattle.numa_refinement.proofs.laws.a_fault_is_a_frame_search.Goals as goal

pub returns-clause-exhausted : goal.returns-clause-exhausted
returns-clause-exhausted c s w history request first before after turns version falls found =
    exhausts s w history request first before after turns falls version found

pub returns-clause-won : goal.returns-clause-won
returns-clause-won c s w history request first before after turns placement falls places =
    wins s w history request first before after turns falls placement places

pub returns-clause-owned : goal.returns-clause-owned
returns-clause-owned c s w history request first before after turns placement falls places =
    owns s w history request first before after turns falls placement places
