use Rattle.numa_refinement.proofs.Meeting.{looks_alike, misses_alike}
use Rattle.numa_refinement.proofs.walks.steps_meet_alike.Goals as goal

pub returns-clause-load : goal.returns-clause-load
returns-clause-load c s world words views frame_search es n w rule owns met =
    looks_alike s world words views rule owns frame_search es met n w

pub returns-clause-lost : goal.returns-clause-lost
returns-clause-lost c frame_search es f = misses_alike frame_search es f
