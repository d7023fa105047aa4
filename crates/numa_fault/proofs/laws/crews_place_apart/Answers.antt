use Rattle.numa_fault.proofs.Apart.{crew-apart}
use Rattle.numa_fault.proofs.laws.crews_place_apart.Goals as goal

pub returns : goal.returns
returns c frames requests old new answers crew long served seats i j p q less at later same =
    crew-apart frames requests old new answers crew.0 long served seats i j p q less at later same
