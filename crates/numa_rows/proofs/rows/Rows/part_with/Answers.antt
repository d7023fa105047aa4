-- The list is that of the chunks.
use Rattle.std.proofs.Common.{length, ap, arith}
use Rattle.numa_rows.proofs.Windows.{table-same}
use Rattle.numa_rows.proofs.rows.Rows.part_with.Goals as goal

pub part_of-requires-clause-table : goal.part_of-requires-clause-table
part_of-requires-clause-table g c = table-same 6144 c.self.inside.chunks.items c.deref.result.now
    c.self.inside.starts.items c.deref-2.result.now c.self.inside.len c.deref.ensures.value
    c.deref-2.ensures.value c.self.invariant

pub part_of-requires-clause-rank : goal.part_of-requires-clause-rank
part_of-requires-clause-rank g c =
    omega (arith, c.requires.rank, ap length c.self.view_is, c.self.invariant.count)
