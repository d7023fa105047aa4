use Rattle.std.proofs.Common.{refl}
use Rattle.numa_huge.proofs.pages.HugePages.of.Goals as goal

pub returns-clause-memory : goal.returns-clause-memory
returns-clause-memory c = record { pages = refl; told = c.still.ensures; arrived = tt }
