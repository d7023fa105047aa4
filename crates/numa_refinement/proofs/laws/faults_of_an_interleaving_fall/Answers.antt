use Rattle.numa_refinement.proofs.Among.{falls, leaves-last}
use Rattle.numa_refinement.proofs.Preceding.{was-ready}
use Rattle.numa_refinement.proofs.laws.faults_of_an_interleaving_fall.Goals as goal

pub returns-clause-falls : goal.returns-clause-falls
returns-clause-falls c s w few first pools done later history request play none ready before after
    gained = falls s w few first pools done later history request play none ready before after
    gained

pub returns-clause-last : goal.returns-clause-last
returns-clause-last c s w few first pools done later history request play none ready =
    leaves-last s w few first pools done later history request play none ready

pub returns-clause-ready : goal.returns-clause-ready
returns-clause-ready c s few some_worker first w pools done later history request play is =
    was-ready s few some_worker first w pools done later history request play is
