use Rattle.std.proofs.Common.{◌+◌, ◌∙◌, ap, arith}
use Rattle.std.proofs.lemmas.List.{take_all}
use Rattle.numa_host.proofs.Copied.{copied-more}
use Rattle.numa_host.proofs.process.copies_of.Goals as goal

pub push_reserved-requires : goal.push_reserved-requires
push_reserved-requires c =
    omega (arith, c.loop-process.invariant.size, c.loop-process.invariant.room)

pub loop-process-preserved : goal.loop-process-preserved
loop-process-preserved c = record {
  same = copied-more c.args.processes.now c.loop-process.copies.items
      c.push_reserved.new.self.items c.process-item.result c.in_ok-copy_of.field-0
      c.loop-process.process-index (omega arith) c.process-item.is c.in_ok-copy_of.ensures
      c.loop-process.invariant.same c.push_reserved.ensures.items;
  size = c.push_reserved.ensures.len ∙ ap (λ n. n + 1) c.loop-process.invariant.size;
  room = omega (arith, c.push_reserved.ensures.capacity, c.loop-process.invariant.room);
}

pub returns : goal.returns
returns c = c.loop-process.invariant.same
    ∙ take_all c.loop-process.process-index c.args.processes.now (omega arith)
