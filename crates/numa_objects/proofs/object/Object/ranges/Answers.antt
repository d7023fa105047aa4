use Rattle.std.proofs.Common.{◌∙◌, ap, sym}
use Rattle.numa_ranges.specs.Counts.{range_count}
use Rattle.numa_objects.specs.Objects.{ObjectData, policy_of, ranges_by}
use Rattle.numa_objects.specs.Same.{same_policy}
use Rattle.numa_objects.proofs.Overwritten.{whole-map}
use Rattle.numa_objects.proofs.object.Object.ranges.Goals as goal

pub returns-clause-count : goal.returns-clause-count
returns-clause-count c = c.len.ensures.count
    ∙ ap (range_count same_policy)
    (sym (whole-map c.self.inside.policies.runs c.self.invariant.places))
    ∙ ap (λ (o : ObjectData). ranges_by (policy_of o)) c.self.view_is
