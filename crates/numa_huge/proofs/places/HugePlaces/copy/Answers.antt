use Rattle.std.proofs.Common.{ap, subst, sym, ◌∙◌}
use Rattle.numa_ranges.specs.Ranges.{Ranges}
use Rattle.numa_huge.specs.Kept.{AreKept}
use Rattle.numa_huge.specs.declared.spot.HugeSpot.{HugeSpot}
use Rattle.numa_huge.proofs.places.HugePlaces.copy.Goals as goal

pub invariant_of-result : goal.invariant_of-result
invariant_of-result c = (
  c.self.invariant.0,
  subst (λ (map : Ranges HugeSpot). AreKept c.self.invariant.0 c.self.inside.pools map.runs)
      (sym c.in-Ok.ensures) c.self.invariant.1,
  ap (λ (map : Ranges HugeSpot). map.max_ranges) c.in-Ok.ensures ∙ c.self.invariant.2,
)

pub returns : goal.returns
returns c =
    ap (λ (map : Ranges HugeSpot). record { pools = c.self.inside.pools; runs = map.runs })
    c.in-Ok.ensures ∙ c.self.view_is
