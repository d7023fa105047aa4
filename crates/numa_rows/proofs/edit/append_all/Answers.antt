-- One more chunk's rows.
use Rattle.std.proofs.Common.{◌++◌, ap, ◌∙◌, arith}
use Rattle.std.proofs.lemmas.List.{take_all}
use Rattle.numa_rows.specs.Parts.{flat}
use Rattle.numa_rows.proofs.Editing.{appended-more}
use Rattle.numa_rows.proofs.edit.append_all.Goals as goal

pub loop-chunk-preserved : goal.loop-chunk-preserved
loop-chunk-preserved g c =
    appended-more c.args.chunks.now c.args.others.now.items c.loop-chunk.others.items
    c.append_to.new.others.items c.chunk-item.result c.loop-chunk.chunk-index (omega arith)
    c.chunk-item.is c.loop-chunk.invariant c.in_default.ensures

pub returns : goal.returns
returns g c = c.loop-chunk.invariant ∙ ap (λ l. c.args.others.now.items ++ flat l)
    (take_all c.loop-chunk.chunk-index c.args.chunks.now (omega arith))
