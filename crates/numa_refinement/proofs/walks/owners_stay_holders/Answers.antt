use Rattle.numa_refinement.proofs.Owning.{wins_alike, gives_alike}
use Rattle.numa_refinement.proofs.walks.owners_stay_holders.Goals as goal

pub returns-clause-won : goal.returns-clause-won
returns-clause-won c world views id v f at owns = wins_alike world views id v at owns f

pub returns-clause-gave : goal.returns-clause-gave
returns-clause-gave c world frames words views id v f rule at owns =
    gives_alike world views id v at owns frames words rule f
