-- The list is that of the chunks.
use Rattle.std.proofs.Common.{◌∙◌, get_or, ap, length, arith}
use Rattle.numa_rows.specs.Parts.{flat}
use Rattle.numa_rows.proofs.Windows.{table-same}
use Rattle.numa_rows.proofs.rows.Rows.get_near.Goals as goal

pub row_near-requires-clause-table : goal.row_near-requires-clause-table
row_near-requires-clause-table g c = table-same 6144 c.self.inside.chunks.items c.deref.result.now
    c.self.inside.starts.items c.deref-2.result.now c.self.inside.len c.deref.ensures.value
    c.deref-2.ensures.value c.self.invariant

pub returns : goal.returns
returns g c d = c.row_near.ensures d
    ∙ ap (λ l. get_or l c.args.rank d) (ap flat c.deref.ensures.value ∙ c.self.view_is)

pub row_near-requires-clause-rank : goal.row_near-requires-clause-rank
row_near-requires-clause-rank g c =
    omega (arith, c.requires, ap length c.self.view_is, c.self.invariant.count)
