use Rattle.std.proofs.Common.{ap}
use Rattle.numa_huge.specs.Huge.{HugePlaced, places_of}
use Rattle.numa_huge.proofs.pages.HugePages.map_by.Goals as goal

pub returns : goal.returns
returns c memory is = record {
  pages = ap (λ (h : HugePlaced). places_of h) c.map_by.ensures.is;
  told = is.told;
  arrived = is.arrived;
}
