use Rattle.numa_play.proofs.TwinSpaces.{same-there}
use Rattle.numa_play.proofs.twin.twins_go_alike.Goals as goal

pub returns : goal.returns
returns c = λ machine history keep task page cpu. same-there machine history keep task page cpu
