use Rattle.std.proofs.Common.{◌≡◌, ◌≤◌, take}
use Rattle.std.specs.Prelude.{count_by, is_some}
use Rattle.numa_plan.specs.Slots.{rule_of_slot}
use Rattle.numa_plan.proofs.slots.taken_count.Given as goal

abbrev pub invariant-loop-slot : goal.invariant-loop-slot
invariant-loop-slot l = record {
  few : l.count ≤ l.slot-index;
  counted : l.count ≡ count_by (λ slot. is_some (rule_of_slot slot)) (take l.slot-index l.slots);
}
