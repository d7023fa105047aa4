use Rattle.std.proofs.Common.{subst}
use Rattle.numa_huge.specs.Tallies.{HasTold}
use Rattle.numa_huge.specs.declared.last.HugeLast.{HugeLast}
use Rattle.numa_huge.proofs.last.HugeLast.copy.Goals as goal

pub returns-in-Ok : goal.returns-in-Ok
returns-in-Ok c = λ told has.
    c.in-Ok.ensures told (subst (λ (last : HugeLast). HasTold last told) c.in-Pages.is has)
