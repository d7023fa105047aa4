use Rattle.numa_refinement.proofs.Keeping.{won-core_step, lost-core_step}
use Rattle.numa_refinement.proofs.walks.try_is_a_try.Goals as goal

pub returns-clause-won : goal.returns-clause-won
returns-clause-won c s world since old new id version f frame_search on =
    won-core_step s world id version frame_search (since id) old new on.tied on.busy
    (on.met id frame_search on.busy) f on.makes on.next

pub returns-clause-lost : goal.returns-clause-lost
returns-clause-lost c s world since old new id version f frame_search on =
    lost-core_step s world id version frame_search (since id) old new on.tied on.busy
    (on.met id frame_search on.busy) f on.makes on.next
