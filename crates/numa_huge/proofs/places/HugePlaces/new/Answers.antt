use Rattle.std.proofs.Common.{ap, subst, sym}
use Rattle.numa_pools.specs.Pools.{PoolCounts, no_pages}
use Rattle.numa_ranges.specs.Ranges.{Ranges}
use Rattle.numa_huge.specs.Huge.{huge_at}
use Rattle.numa_huge.specs.Kept.{AreKept}
use Rattle.numa_huge.specs.declared.spot.HugeSpot.{HugeSpot}
use Rattle.numa_huge.proofs.Keeping.{kept-none, lying-is}
use Rattle.numa_huge.proofs.places.HugePlaces.new.Goals as goal
use Rattle.std.proofs.Common.{None}

pub invariant_of-result : goal.invariant_of-result
invariant_of-result c =
    let none = kept-none c.args.machine.now.memory in (
      none.0,
      subst (λ (pools : PoolCounts). AreKept none.0 pools c.new-2.result.runs)
          (sym c.new.ensures)
          (subst (λ (map : Ranges HugeSpot). AreKept none.0 (no_pages c.args.machine.now.memory)
          map.runs) (sym c.new-2.ensures) none.1),
      ap (λ (map : Ranges HugeSpot). map.max_ranges) c.new-2.ensures,
    )

pub returns : goal.returns
returns c =
    lying-is c.new.result (no_pages c.args.machine.now.memory) (huge_at c.new-2.result.runs)
    (λ page. None) c.new.ensures
    (λ page. ap (λ (map : Ranges HugeSpot). huge_at map.runs page) c.new-2.ensures)
