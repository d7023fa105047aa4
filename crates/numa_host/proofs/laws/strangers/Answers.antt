use Rattle.numa_host.proofs.Strangers.{commands-without}
use Rattle.numa_host.proofs.laws.strangers.Goals as goal

pub returns : goal.returns
returns c = λ machine history these process met other. commands-without these machine history
    process met other
