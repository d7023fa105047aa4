use Rattle.std.proofs.Common.{ap, refl, subst, sym, None}
use Rattle.numa_ranges.specs.Ranges.{Ranges}
use Rattle.numa_huge.specs.Huge.{huge_at}
use Rattle.numa_huge.specs.Kept.{AreKept}
use Rattle.numa_huge.specs.declared.spot.HugeSpot.{HugeSpot}
use Rattle.numa_huge.proofs.Keeping.{kept-empty, lying-is}
use Rattle.numa_huge.proofs.places.HugePlaces.lent.Goals as goal

pub invariant_of-result : goal.invariant_of-result
invariant_of-result c = (
  c.requires.0,
  subst (λ (map : Ranges HugeSpot). AreKept c.requires.0 c.args.pools.now map.runs)
      (sym c.new.ensures) (kept-empty c.requires.0 c.args.pools.now c.requires.1),
  ap (λ (map : Ranges HugeSpot). map.max_ranges) c.new.ensures,
)

pub returns : goal.returns
returns c =
    lying-is c.args.pools.now c.args.pools.now (huge_at c.new.result.runs) (λ page. None) refl
    (λ page. ap (λ (map : Ranges HugeSpot). huge_at map.runs page) c.new.ensures)
