use Rattle.std.proofs.Common.{ap, arith, ◌∙◌}
use Rattle.numa_huge.specs.Huge.{HugePlaced}
use Rattle.numa_huge.proofs.Own.{count-kept, few-kept}
use Rattle.numa_huge.proofs.places.HugePlaces.runs.Goals as goal

pub returns-clause-count : goal.returns-clause-count
returns-clause-count c =
    rw (← (ap (λ (p : HugePlaced). p.runs) c.self.view_is))
    (c.len.ensures.count ∙ count-kept c.self.inside.map.runs c.self.invariant.1.own)

pub returns-clause-few : goal.returns-clause-few
returns-clause-few c =
    rw (← (ap (λ (p : HugePlaced). p.runs) c.self.view_is))
    (few-kept c.self.inside.map.runs c.len.result c.self.invariant.1.own c.len.ensures.count
    (omega (arith, c.len.ensures.max_ranges, c.self.invariant.2)))
