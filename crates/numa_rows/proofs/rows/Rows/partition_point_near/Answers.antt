-- The list is that of the chunks.
use Rattle.std.proofs.Common.{◌≡◌, true, false, List, ap, subst, ◌∙◌}
use Rattle.std.specs.List.Sorted.{IsPartitionedBy, IsPartitionPoint}
use Rattle.numa_rows.specs.Parts.{flat}
use Rattle.numa_rows.proofs.Windows.{table-same}
use Rattle.numa_rows.proofs.rows.Rows.partition_point_near.Goals as goal

pub returns-clause-partitioned : goal.returns-clause-partitioned
returns-clause-partitioned g c p by =
    let same : flat c.deref.result.now ≡ c.args.self.now = ap flat c.deref.ensures.value
    ∙ c.self.view_is in
    subst (λ (l : List g.row.T.Denot). IsPartitionedBy p l
    → IsPartitionPoint (λ y. p y ≡ true) (λ y. p y ≡ false) l c.search_near.result) same
    (c.search_near.ensures.partitioned p by)

pub search_near-requires-clause-table : goal.search_near-requires-clause-table
search_near-requires-clause-table g c = table-same 6144 c.self.inside.chunks.items
    c.deref.result.now c.self.inside.starts.items c.deref-2.result.now c.self.inside.len
    c.deref.ensures.value c.deref-2.ensures.value c.self.invariant
