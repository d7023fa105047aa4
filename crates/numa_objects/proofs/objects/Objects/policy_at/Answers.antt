use Rattle.std.proofs.Common.{sym}
use Rattle.numa_objects.proofs.Bound.{shared-end}
use Rattle.numa_objects.proofs.objects.Objects.policy_at.Goals as goal

pub slot_of-slot-requires : goal.slot_of-slot-requires
slot_of-slot-requires c = shared-end c.args.index (sym c.if-not-is_shared.ensures)

pub turn_of-requires : goal.turn_of-requires
turn_of-requires c = shared-end c.args.index (sym c.if-not-is_shared.ensures)
