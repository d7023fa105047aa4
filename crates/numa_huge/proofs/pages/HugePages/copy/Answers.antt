use Rattle.std.proofs.Common.{◌∙◌, ap}
use Rattle.numa_huge.specs.Huge.{HugePlaced, places_of}
use Rattle.numa_huge.proofs.pages.HugePages.copy.Goals as goal

pub returns-clause-memory : goal.returns-clause-memory
returns-clause-memory c memory is = record {
  pages = ap (λ (p : HugePlaced). places_of p) c.in-Ok.ensures ∙ is.pages;
  told = c.in-Ok-copy.ensures memory.told is.told;
  arrived = is.arrived;
}
