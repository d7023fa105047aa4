use Rattle.numa_refinement.proofs.FrameSearching.{ends}
use Rattle.numa_refinement.proofs.walks.a_walk_is_a_frame_search.Goals as goal

pub returns-clause-frame_search : goal.returns-clause-frame_search
returns-clause-frame_search c s first id version request nodes found turns may took walk =
    (ends s id version request nodes first may found turns took walk).0

pub returns-clause-idle : goal.returns-clause-idle
returns-clause-idle c s first id version request nodes found turns may took walk =
    (ends s id version request nodes first may found turns took walk).1
