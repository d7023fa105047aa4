-- Each chunk but the last has 64 rows or more.
use Rattle.std.proofs.Common.{length, ap, arith}
use Rattle.numa_rows.proofs.Windows.{few-parts}
use Rattle.numa_rows.proofs.rows.Rows.chunk_count.Goals as goal

pub returns : goal.returns
returns g c = omega (
  arith,
  few-parts 6144 c.self.inside.chunks.items c.self.invariant.filled,
  ap length c.self.view_is,
  c.len.ensures,
  c.self.inside.chunks.ok.0,
)
