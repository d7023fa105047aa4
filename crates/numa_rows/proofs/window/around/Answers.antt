-- The chunks around both ends are a window.
use Rattle.std.proofs.Common.{length, ap, arith}
use Rattle.numa_rows.proofs.Editing.{window-around, window-start}
use Rattle.numa_rows.proofs.InParts.{length-starts}
use Rattle.numa_rows.proofs.Windows.{few-parts}
use Rattle.numa_rows.proofs.window.around.Goals as goal

pub place_of-last-requires-clause-rank : goal.place_of-last-requires-clause-rank
place_of-last-requires-clause-rank g c = omega (arith, c.requires.rank)

pub overflow_add-last : goal.overflow_add-last
overflow_add-last g c =
    omega (
      arith,
      c.place_of-last.ensures.within,
      few-parts 6144 c.args.chunks.now c.requires.table.filled,
      c.requires.table.count,
      c.requires.table.small,
    )

pub returns-clause-window : goal.returns-clause-window
returns-clause-window g c =
    window-around 6144 c.args.chunks.now c.args.place.chunk c.place_of-last.result.chunk
    c.args._from
    c.args.to c.args._added c.saturating_sub-low.result c.min.result c.args.place.start
    c.place_of-last.result.start c.args._rank c.min-end.result c.requires.has
    c.place_of-last.ensures
    c.requires.from c.requires.rises (omega (arith, c.requires.within))
    (omega arith) (omega arith)
    (omega (arith, c.requires.rank, c.requires.from, c.requires.rises)) c.requires.table.filled

pub offset_bounds-starts-low : goal.offset_bounds-starts-low
offset_bounds-starts-low g c =
    omega (
      arith,
      c.requires.has.within,
      few-parts 6144 c.args.chunks.now c.requires.table.filled,
      c.requires.table.count,
      c.requires.table.small,
    )

pub bounds-starts-low : goal.bounds-starts-low
bounds-starts-low g c =
    omega (
      arith,
      ap length c.requires.table.ranks,
      length-starts 0 c.args.chunks.now,
      c.requires.has.within,
    )

pub returns-clause-start : goal.returns-clause-start
returns-clause-start g c = window-start 6144 c.args.chunks.now c.args.starts.now c.args.len
    c.saturating_sub-low.result c.requires.table (omega (
      arith,
      ap length c.requires.table.ranks,
      length-starts 0 c.args.chunks.now,
      c.requires.has.within,
    ))
