use Rattle.std.proofs.Common.{◌+◌, ◌∙◌, ap, arith}
use Rattle.std.proofs.lemmas.List.{take_all}
use Rattle.numa_plan.proofs.ListSteps.{copied-more}
use Rattle.numa_plan.proofs.slots.copies.Goals as goal

pub push_reserved-requires : goal.push_reserved-requires
push_reserved-requires c = omega (arith, c.loop-slot.invariant.size, c.loop-slot.invariant.room)

pub loop-slot-preserved : goal.loop-slot-preserved
loop-slot-preserved c = record {
  same = copied-more c.args.slots.now c.loop-slot.others.items c.push_reserved.new.self.items
      c.slot-item.result c.in_ok-slot_copy.field-0 c.loop-slot.slot-index (omega arith)
      c.slot-item.is c.in_ok-slot_copy.ensures c.loop-slot.invariant.same
      c.push_reserved.ensures.items;
  size = c.push_reserved.ensures.len ∙ ap (λ n. n + 1) c.loop-slot.invariant.size;
  room = omega (arith, c.push_reserved.ensures.capacity, c.loop-slot.invariant.room);
}

pub returns : goal.returns
returns c = c.loop-slot.invariant.same ∙ take_all c.loop-slot.slot-index c.args.slots.now
    (omega arith)
