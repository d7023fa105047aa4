use Rattle.numa_refinement.proofs.Current.{is-at, still, over, may_look-current, may_try-next}
use Rattle.numa_refinement.proofs.walks.walks_are_frame_searches.Goals as goal

pub returns-clause-current : goal.returns-clause-current
returns-clause-current c s frame_search es n met = is-at s frame_search es met n

pub returns-clause-goes_on : goal.returns-clause-goes_on
returns-clause-goes_on c s frame_search es n met = still s frame_search es met n

pub returns-clause-ended : goal.returns-clause-ended
returns-clause-ended c = over

pub returns-clause-may_look : goal.returns-clause-may_look
returns-clause-may_look c s frame_search es n w met = may_look-current s frame_search es met n w

pub returns-clause-may_try : goal.returns-clause-may_try
returns-clause-may_try c s frame_search es f met = may_try-next s frame_search es met f
