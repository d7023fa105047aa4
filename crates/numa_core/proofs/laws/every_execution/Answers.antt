use Rattle.numa_core.proofs.Answered.{legal_before}
use Rattle.numa_core.proofs.GivenBack.{given_back}
use Rattle.numa_core.proofs.Versions.{never_falls}
use Rattle.numa_core.proofs.Placing.{right, found}
use Rattle.numa_core.proofs.Exhausting.{exhausted, full}
use Rattle.numa_core.proofs.laws.every_execution.Goals as goal

pub returns-clause-right : goal.returns-clause-right
returns-clause-right c s later earlier m placement legal e =
    right s earlier m placement (legal_before s later _ legal) e

pub returns-clause-exhausted : goal.returns-clause-exhausted
returns-clause-exhausted c s later earlier m version legal e =
    exhausted s earlier m version (legal_before s later _ legal) e

pub returns-clause-found : goal.returns-clause-found
returns-clause-found c s later earlier m frame legal e =
    found s earlier m frame (legal_before s later _ legal) e

pub returns-clause-full : goal.returns-clause-full
returns-clause-full c s later earlier m legal e =
    full s earlier m (legal_before s later _ legal) e

pub returns-clause-given_back : goal.returns-clause-given_back
returns-clause-given_back c s later between earlier first second v w frame legal old new =
    given_back s between earlier first second v w frame (legal_before s later _ legal) old new

pub returns-clause-never_falls : goal.returns-clause-never_falls
returns-clause-never_falls c s later between earlier old new w a b legal old_step new_step first
    second = never_falls s between earlier old new w a b (legal_before s later _ legal) old_step
    new_step first second
