use Rattle.numa_refinement.proofs.Keeping.{look-core_step}
use Rattle.numa_refinement.proofs.walks.load_is_a_look.Goals as goal

pub returns : goal.returns
returns c s world since old new id version n w x frame_search on =
    look-core_step s world id version frame_search (since id) old new on.tied on.busy
    (on.met id frame_search on.busy) n w x on.makes on.next
