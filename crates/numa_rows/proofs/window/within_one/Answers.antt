-- The chunk's rows are rows of the list.
use Rattle.std.proofs.Common.{arith}
use Rattle.numa_rows.proofs.InParts.{part-within}
use Rattle.numa_rows.proofs.window.within_one.Goals as goal

pub overflow_add-place : goal.overflow_add-place
overflow_add-place g c =
    omega (
      arith,
      part-within c.args.chunks.now c.args.place.chunk c.args.place.start c.args._rank
          c.index-chunks-place.result c.requires.has c.index-chunks-place.is,
      c.len-size.ensures,
      c.requires.count,
      c.requires.small,
    )

pub overflow_add-left : goal.overflow_add-left
overflow_add-left g c =
    omega (
      arith,
      part-within c.args.chunks.now c.args.place.chunk c.args.place.start c.args._rank
          c.index-chunks-place.result c.requires.has c.index-chunks-place.is,
      c.len-size.ensures,
      c.requires.count,
      c.requires.few,
    )
