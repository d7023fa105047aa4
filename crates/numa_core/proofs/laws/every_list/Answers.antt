use Rattle.numa_core.proofs.Answered.{legal_before}
use Rattle.numa_core.proofs.CommandsOfExecutions.{right-allowed, past-list}
use Rattle.numa_core.proofs.Placing.{right}
use Rattle.numa_core.proofs.laws.every_list.Goals as goal

pub returns-clause-sound : goal.returns-clause-sound
returns-clause-sound c s past version request nodes some small legal listed =
    past-list s some small past version request nodes legal listed

pub returns-clause-allowed : goal.returns-clause-allowed
returns-clause-allowed c s later earlier m placement some small legal won =
    let here = legal_before s later _ legal in
    let placed = right s earlier m placement here won in
    right-allowed s some small earlier placed.0 placement here.0 placed.2
