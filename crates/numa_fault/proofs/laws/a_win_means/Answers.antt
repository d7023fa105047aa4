use Rattle.numa_fault.proofs.Lawful.{won-taken, none-taken}
use Rattle.numa_fault.proofs.laws.a_win_means.Goals as goal

pub returns-clause-won : goal.returns-clause-won
returns-clause-won c frames machine history request placement before after =
    won-taken frames machine history request before after placement

pub returns-clause-none : goal.returns-clause-none
returns-clause-none c frames machine history request version before after =
    none-taken frames machine history request before after version
