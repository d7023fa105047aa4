use Rattle.std.specs.Map.Iter.{deref_pair}
use Rattle.std.proofs.lemmas.Iterator.Consumers.{YieldsList-from_first, count_from_yields_List}
use Rattle.std.proofs.Common.{ap, arith, length}
use Rattle.numa_maps.specs.Residents.{Kept}
use Rattle.numa_maps.specs.Listing.{placed_in}
use Rattle.numa_maps.proofs.resident.Resident.count_in.Goals as goal

pub returns-clause-count : goal.returns-clause-count
returns-clause-count c = count_from_yields_List c.placed_in.result _ c.count.ensures.ran
    (YieldsList-from_first deref_pair (λ entries. entries)
    (placed_in c.args.self.now c.args.range.now) c.placed_in.ensures.placed)

pub returns-clause-few : goal.returns-clause-few
returns-clause-few c =
    let count = count_from_yields_List c.placed_in.result _ c.count.ensures.ran
    (YieldsList-from_first deref_pair (λ entries. entries)
    (placed_in c.args.self.now c.args.range.now) c.placed_in.ensures.placed) in
    omega (
      arith,
      count,
      ap (λ (k : Kept). length k) c.placed_in.ensures.placed,
      c.placed_in.ensures.few,
    )
