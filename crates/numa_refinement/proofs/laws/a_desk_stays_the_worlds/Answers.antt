use Rattle.numa_refinement.proofs.Desking.{workers}
use Rattle.numa_refinement.proofs.laws.a_desk_stays_the_worlds.Goals as goal

pub returns-clause-workers : goal.returns-clause-workers
returns-clause-workers c s world desk m w is of = workers s world desk m.version w m.event m.answer
    is of

pub returns-clause-executions : goal.returns-clause-executions
returns-clause-executions c s past desk m legal leads = ((legal, leads.0.0, leads.0.1), leads.1)
