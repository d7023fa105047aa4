use Rattle.std.proofs.Common.{◌≡◌, ◌<◌, ◌∷◌, ◌++◌, [], List, true, false, length, is_some, sym, ap}
use Rattle.std.proofs.Common.{subst, ◌∙◌, arith}
use Rattle.numa_objects.specs.Objects.{AreObjects, ObjectData, ranges_in}
use Rattle.numa_objects.proofs.Kept.{added-few, objects-added}
use Rattle.numa_objects.proofs.objects.Objects.with_object.Goals as goal
use Rattle.numa_objects.proofs.objects.Objects.with_object.Goals.{else-is_some-via-else-is_some}
use Rattle.numa_objects.proofs.objects.Objects.with_object.Goals.{
  else-is_some-via-then-is_some+else-ranges_in-ge-MAX_RANGES,
}

pub of-requires : goal.of-requires
of-requires c =
    let same : c.items-items.result.now ≡ c.args.self.now = c.items-items.ensures.items in
    let is : c.in-Ok-table_with.table.items ≡ c.args.self.now ++ c.in-Ok.object ∷ [] =
    c.in-Ok-table_with.ensures ∙ ap (λ (l : List ObjectData). l ++ c.in-Ok.object ∷ []) same in
    let room : length c.args.self.now < 1024 =
    omega (arith, c.if-items-ge-MAX_OBJECTS.false, ap (λ (l : List ObjectData). length l) same) in
    let limit : is_some c.args.policy.now ≡ true → ranges_in c.args.self.now < 65536 =
    elim c.else-is_some.branch [
      | else-is_some-via-then-is_some+else-ranges_in-ge-MAX_RANGES w ↦
          λ given. omega (
            arith,
            w.if-ranges_in-ge-MAX_RANGES.false,
            w.ranges_in.ensures,
            ap ranges_in same,
          )
      | else-is_some-via-else-is_some w ↦
          λ given. let odd : true ≡ false = sym given ∙ sym c.is_some.ensures ∙ w.if-is_some.false in
          absurd cc
    ] in
    subst AreObjects (sym is)
    (objects-added c.args.self.now c.in-Ok.object c.items-items.ensures.kept c.in-Ok.ensures.kept
    room (added-few (ranges_in c.args.self.now) (is_some c.args.policy.now)
    (length c.in-Ok.object.policies) c.in-Ok.ensures.ranges c.items-items.ensures.kept.few_ranges
    limit))
