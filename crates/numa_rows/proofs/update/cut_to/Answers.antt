-- The last row that stays has a chunk.
use Rattle.std.proofs.Common.{◌+◌, ◌-◌, List, take, subst, ap, ◌∙◌, arith}
use Rattle.numa_rows.specs.Parts.{flat, HasRank, IsTable}
use Rattle.numa_rows.proofs.Windows.{table-same}
use Rattle.numa_rows.proofs.update.cut_to.Goals as goal

pub place_of-place-requires-clause-table : goal.place_of-place-requires-clause-table
place_of-place-requires-clause-table g c = table-same 6144 c.args.chunks.now.items
    c.deref.result.now c.args.starts.now.items c.deref-2.result.now c.args.len c.deref.ensures.value
    c.deref-2.ensures.value c.requires.table

pub place_of-place-requires-clause-rank : goal.place_of-place-requires-clause-rank
place_of-place-requires-clause-rank g c = omega (arith, c.requires.less)

pub cut_behind-requires-clause-table : goal.cut_behind-requires-clause-table
cut_behind-requires-clause-table g c = c.requires.table

pub cut_behind-requires-clause-has : goal.cut_behind-requires-clause-has
cut_behind-requires-clause-has g c =
    subst (λ (l : List (List g.row.T.Denot)). HasRank l c.place_of-place.result.chunk
    c.place_of-place.result.start (c.args.left - 1)) c.deref.ensures.value c.place_of-place.ensures

pub returns-clause-rows : goal.returns-clause-rows
returns-clause-rows g c = c.cut_behind.ensures.rows
    ∙ ap (λ n. take n (flat c.args.chunks.now.items)) {x = c.args.left - 1 + 1} {y = c.args.left}
    (omega arith)

pub returns-clause-table : goal.returns-clause-table
returns-clause-table g c =
    subst (λ n. IsTable 6144 c.cut_behind.new.chunks.items c.cut_behind.new.starts.items n)
    {x = c.args.left - 1 + 1} {y = c.args.left} (omega arith) c.cut_behind.ensures.table
