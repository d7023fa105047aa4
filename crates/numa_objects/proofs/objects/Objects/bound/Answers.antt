use Rattle.std.proofs.Common.{◌≡◌, ◌+◌, ◌-◌, ◌<◌, ◌≤◌, ◌^◌, ℕ, None, Some, List, length, refl, sym}
use Rattle.std.proofs.Common.{ap, subst, ◌∙◌, arith}
use Rattle.std.specs.Prelude.{slice_set}
use Rattle.numa_objects.specs.Changes.{AreBound, bind_cause}
use Rattle.numa_objects.specs.Objects.{AreObjects, ObjectData, ranges_beside}
use Rattle.numa_objects.specs.Spots.{turn_of}
use Rattle.numa_objects.specs.declared.fault.ObjectFault.TheVariants.{TooManyRanges}
use Rattle.numa_objects.proofs.Bound.{call-bound, cause-none, cause-some, changed-ranges, place-is}
use Rattle.numa_objects.proofs.Bound.{slot-low}
use Rattle.numa_objects.proofs.Kept.{objects-set}
use Rattle.numa_objects.proofs.objects.Objects.bound.Goals as goal

pub returns-then-beside-ranges_after-gt-MAX_RANGES :
    goal.returns-then-beside-ranges_after-gt-MAX_RANGES
returns-then-beside-ranges_after-gt-MAX_RANGES c =
    let cause : bind_cause c.args.self.now c.args.index c.args.pages c.args.policy.now
    ≡ Some TooManyRanges =
    cause-some c.args.self.now c.items-items.result.now c.args.index c.args.pages
    c.slot_of-slot.result c.turn_of.result c.inode.result c.args.policy.now c.requires.object
    c.index-items-slot.result c.object-object.result.now c.items-items.ensures.items
    c.slot_of-slot.ensures c.requires.there c.index-items-slot.is c.object-object.ensures
    c.turn_of.ensures.turn c.inode.ensures.inode c.ranges_beside-beside.result c.ranges_after.result
    c.ranges_beside-beside.ensures.ranges c.ranges_after.ensures.ranges
    (omega (arith, c.if-beside-ranges_after-gt-MAX_RANGES.true)) in
    rw cause refl

pub bound-requires : goal.bound-requires
bound-requires c =
    let place : c.turn_of.result - c.inode.result
    ≡ turn_of c.args.index - c.requires.object.inode =
    place-is c.args.self.now c.items-items.result.now c.args.index c.args.pages
    c.slot_of-slot.result c.turn_of.result c.inode.result c.args.policy.now c.requires.object
    c.index-items-slot.result c.object-object.result.now c.items-items.ensures.items
    c.slot_of-slot.ensures c.requires.there c.index-items-slot.is c.object-object.ensures
    c.turn_of.ensures.turn c.inode.ensures.inode in
    record { some = c.requires.some; within = omega (arith, c.requires.to, place) }

pub returns-in_default : goal.returns-in_default
returns-in_default c =
    let cause : bind_cause c.args.self.now c.args.index c.args.pages c.args.policy.now ≡ None =
    cause-none c.args.self.now c.items-items.result.now c.args.index c.args.pages
    c.slot_of-slot.result c.turn_of.result c.inode.result c.args.policy.now c.requires.object
    c.index-items-slot.result c.object-object.result.now c.items-items.ensures.items
    c.slot_of-slot.ensures c.requires.there c.index-items-slot.is c.object-object.ensures
    c.turn_of.ensures.turn c.inode.ensures.inode c.ranges_beside-beside.result c.ranges_after.result
    c.ranges_beside-beside.ensures.ranges c.ranges_after.ensures.ranges
    (omega (arith, c.if-beside-ranges_after-gt-MAX_RANGES.false)) in
    rw cause refl

pub table_replaced-requires-clause-slot : goal.table_replaced-requires-clause-slot
table_replaced-requires-clause-slot c =
    slot-low c.args.self.now c.items-items.result.now c.args.index c.args.pages
    c.slot_of-slot.result c.turn_of.result c.inode.result c.args.policy.now c.requires.object
    c.index-items-slot.result c.object-object.result.now c.items-items.ensures.items
    c.slot_of-slot.ensures c.requires.there c.index-items-slot.is c.object-object.ensures
    c.turn_of.ensures.turn c.inode.ensures.inode

pub returns-in_default-table_replaced : goal.returns-in_default-table_replaced
returns-in_default-table_replaced c =
    let cause : bind_cause c.args.self.now c.args.index c.args.pages c.args.policy.now ≡ None =
    cause-none c.args.self.now c.items-items.result.now c.args.index c.args.pages
    c.slot_of-slot.result c.turn_of.result c.inode.result c.args.policy.now c.requires.object
    c.index-items-slot.result c.object-object.result.now c.items-items.ensures.items
    c.slot_of-slot.ensures c.requires.there c.index-items-slot.is c.object-object.ensures
    c.turn_of.ensures.turn c.inode.ensures.inode c.ranges_beside-beside.result c.ranges_after.result
    c.ranges_beside-beside.ensures.ranges c.ranges_after.ensures.ranges
    (omega (arith, c.if-beside-ranges_after-gt-MAX_RANGES.false)) in
    rw cause refl

pub of-requires : goal.of-requires
of-requires c =
    let low : c.slot_of-slot.result < length c.items-items.result.now =
    slot-low c.args.self.now c.items-items.result.now c.args.index c.args.pages
    c.slot_of-slot.result c.turn_of.result c.inode.result c.args.policy.now c.requires.object
    c.index-items-slot.result c.object-object.result.now c.items-items.ensures.items
    c.slot_of-slot.ensures c.requires.there c.index-items-slot.is c.object-object.ensures
    c.turn_of.ensures.turn c.inode.ensures.inode in
    let count = changed-ranges c.args.self.now c.items-items.result.now c.args.index c.args.pages
    c.slot_of-slot.result c.turn_of.result c.inode.result c.args.policy.now c.requires.object
    c.index-items-slot.result c.object-object.result.now c.items-items.ensures.items
    c.slot_of-slot.ensures c.requires.there c.index-items-slot.is c.object-object.ensures
    c.turn_of.ensures.turn c.inode.ensures.inode c.in-Ok.changed c.in-Ok.ensures.identity c.in-Ok.ensures.policies
    in
    let few : ranges_beside c.slot_of-slot.result c.items-items.result.now
    + length c.in-Ok.changed.policies ≤ 65536 =
    omega (
      arith,
      count,
      c.ranges-2.ensures.ranges,
      c.ranges-2.ensures.count,
      c.ranges_beside-beside.ensures.ranges,
      c.ranges_after.ensures.ranges,
      c.if-beside-ranges_after-gt-MAX_RANGES.false,
    ) in
    subst AreObjects (sym c.in-Ok-table_replaced.ensures)
    (objects-set c.items-items.result.now c.slot_of-slot.result c.in-Ok.changed
    (subst AreObjects (sym c.items-items.ensures.items) c.items-items.ensures.kept)
    c.in-Ok.ensures.kept low few)

pub returns-in_default-of : goal.returns-in_default-of
returns-in_default-of c =
    let cause : bind_cause c.args.self.now c.args.index c.args.pages c.args.policy.now ≡ None =
    cause-none c.args.self.now c.items-items.result.now c.args.index c.args.pages
    c.slot_of-slot.result c.turn_of.result c.inode.result c.args.policy.now c.requires.object
    c.index-items-slot.result c.object-object.result.now c.items-items.ensures.items
    c.slot_of-slot.ensures c.requires.there c.index-items-slot.is c.object-object.ensures
    c.turn_of.ensures.turn c.inode.ensures.inode c.ranges_beside-beside.result c.ranges_after.result
    c.ranges_beside-beside.ensures.ranges c.ranges_after.ensures.ranges
    (omega (arith, c.if-beside-ranges_after-gt-MAX_RANGES.false)) in
    rw cause refl

pub returns : goal.returns
returns c =
    let cause : bind_cause c.args.self.now c.args.index c.args.pages c.args.policy.now ≡ None =
    cause-none c.args.self.now c.items-items.result.now c.args.index c.args.pages
    c.slot_of-slot.result c.turn_of.result c.inode.result c.args.policy.now c.requires.object
    c.index-items-slot.result c.object-object.result.now c.items-items.ensures.items
    c.slot_of-slot.ensures c.requires.there c.index-items-slot.is c.object-object.ensures
    c.turn_of.ensures.turn c.inode.ensures.inode c.ranges_beside-beside.result c.ranges_after.result
    c.ranges_beside-beside.ensures.ranges c.ranges_after.ensures.ranges
    (omega (arith, c.if-beside-ranges_after-gt-MAX_RANGES.false)) in
    let bound : AreBound c.args.self.now c.args.index c.args.pages c.args.policy.now
    (slice_set c.items-items.result.now c.slot_of-slot.result c.in-Ok.changed) =
    call-bound c.args.self.now c.items-items.result.now c.args.index c.args.pages
    c.slot_of-slot.result c.turn_of.result c.inode.result c.args.policy.now c.requires.object
    c.index-items-slot.result c.object-object.result.now c.items-items.ensures.items
    c.slot_of-slot.ensures c.requires.there c.index-items-slot.is c.object-object.ensures
    c.turn_of.ensures.turn c.inode.ensures.inode c.in-Ok.changed c.in-Ok.ensures.identity c.in-Ok.ensures.policies
    c.requires.some c.requires.shared c.requires.from c.requires.to c.inode.ensures.few in
    rw cause
    (subst (AreBound c.args.self.now c.args.index c.args.pages c.args.policy.now)
    (sym (c.in-Ok-of.ensures ∙ c.in-Ok-table_replaced.ensures)) bound)
