use Rattle.numa_refinement.proofs.Keeping.{step-ties, step-meets}
use Rattle.numa_refinement.proofs.walks.walks_keep_the_tie.Goals as goal

pub returns-clause-tied : goal.returns-clause-tied
returns-clause-tied c s world since old new id version e frame_search on =
    step-ties s world id version frame_search (since id) old new on.tied on.busy
    (on.met id frame_search on.busy) e on.makes on.next

pub returns-clause-met : goal.returns-clause-met
returns-clause-met c s world since old new id version e frame_search on =
    step-meets s world id version frame_search (since id) old new on.tied on.busy
    (on.met id frame_search on.busy) since on.met e on.makes on.next
