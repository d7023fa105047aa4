-- The list is that of the chunks.
use Rattle.std.proofs.Common.{◌∙◌, drop, ap, length, arith}
use Rattle.numa_rows.specs.Parts.{flat}
use Rattle.numa_rows.proofs.Windows.{table-same}
use Rattle.numa_rows.proofs.rows.Rows.iter_near.Goals as goal

pub rows_near-requires-clause-table : goal.rows_near-requires-clause-table
rows_near-requires-clause-table g c = table-same 6144 c.self.inside.chunks.items c.deref.result.now
    c.self.inside.starts.items c.deref-2.result.now c.self.inside.len c.deref.ensures.value
    c.deref-2.ensures.value c.self.invariant

pub returns : goal.returns
returns g c = c.rows_near.ensures
    ∙ ap (λ l. drop c.args.rank l) (ap flat c.deref.ensures.value ∙ c.self.view_is)

pub rows_near-requires-clause-rank : goal.rows_near-requires-clause-rank
rows_near-requires-clause-rank g c =
    omega (arith, c.requires, ap length c.self.view_is, c.self.invariant.count)
