-- One more chunk is copied.
use Rattle.std.proofs.Common.{◌+◌, ◌∙◌, ap, arith}
use Rattle.std.proofs.lemmas.List.{take_all}
use Rattle.numa_rows.proofs.Editing.{copied-more}
use Rattle.numa_rows.proofs.edit.copies.Goals as goal

pub loop-chunk-preserved : goal.loop-chunk-preserved
loop-chunk-preserved g c = record {
  same = copied-more c.args.chunks.now c.loop-chunk.others.items c.push_reserved.new.self.items
      c.chunk-item.result c.in-Ok-copy.copy c.loop-chunk.chunk-index (omega arith)
      c.chunk-item.is c.in-Ok-copy.ensures c.loop-chunk.invariant.same
      c.push_reserved.ensures.items;
  size = c.push_reserved.ensures.len ∙ ap (λ n. n + 1) c.loop-chunk.invariant.size;
  room = omega (arith, c.push_reserved.ensures.capacity, c.loop-chunk.invariant.room);
}

pub push_reserved-requires : goal.push_reserved-requires
push_reserved-requires g c = omega (arith, c.loop-chunk.invariant.size, c.loop-chunk.invariant.room)

pub returns : goal.returns
returns g c = c.loop-chunk.invariant.same ∙ take_all c.loop-chunk.chunk-index c.args.chunks.now
    (omega arith)
