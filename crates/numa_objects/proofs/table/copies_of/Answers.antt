use Rattle.std.proofs.Common.{◌+◌, ◌∙◌, ap, arith}
use Rattle.std.proofs.lemmas.List.{take_all}
use Rattle.numa_objects.proofs.Copied.{copied-more}
use Rattle.numa_objects.proofs.table.copies_of.Goals as goal

pub push_reserved-requires : goal.push_reserved-requires
push_reserved-requires c =
    omega (arith, c.loop-object.invariant.size, c.loop-object.invariant.room)

pub loop-object-preserved : goal.loop-object-preserved
loop-object-preserved c = record {
  same = copied-more c.args.items.now c.loop-object.copies.items
      c.push_reserved.new.self.items c.object-item.result c.in_ok-share.field-0
      c.loop-object.object-index (omega arith) c.object-item.is c.in_ok-share.ensures
      c.loop-object.invariant.same c.push_reserved.ensures.items;
  size = c.push_reserved.ensures.len ∙ ap (λ n. n + 1) c.loop-object.invariant.size;
  room = omega (arith, c.push_reserved.ensures.capacity, c.loop-object.invariant.room);
}

pub returns : goal.returns
returns c = c.loop-object.invariant.same
    ∙ take_all c.loop-object.object-index c.args.items.now (omega arith)
