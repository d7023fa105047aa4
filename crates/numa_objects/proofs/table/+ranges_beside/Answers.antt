use Rattle.std.proofs.Common.{◌≡◌, ◌+◌, ◌-◌, ◌≤◌, ◌∷◌, List, length, ap, subst, ◌∙◌, arith}
use Rattle.numa_objects.specs.Objects.{ObjectData, ranges_in}
use Rattle.numa_objects.proofs.Kept.{beside-few}
use Rattle.numa_objects.proofs.table.+ranges_beside.Goals as goal

pub returns-clause-few : goal.returns-clause-few
returns-clause-few t c =
    let all : length c.in-Some.first.now.policies + ranges_in c.in-Some.rest.now ≤ 65536 =
    subst (λ (l : List ObjectData). ranges_in l ≤ 65536) c.in-Some.ensures.cases.0 c.requires in
    let size : c.ranges-2.result ≡ length c.in-Some.first.now.policies =
    c.ranges-2.ensures.ranges ∙ ap (λ (o : ObjectData). length o.policies) c.object.ensures in
    omega (
      arith,
      all,
      size,
      c.ranges_beside.ensures.ranges,
      beside-few (c.args.slot - 1) c.in-Some.rest.now,
    )
