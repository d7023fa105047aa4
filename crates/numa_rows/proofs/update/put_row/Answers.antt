-- One row of one chunk is another.
use Rattle.std.proofs.Common.{List, subst, refl}
use Rattle.numa_rows.specs.Parts.{HasRank}
use Rattle.numa_rows.proofs.Windows.{table-same}
use Rattle.numa_rows.proofs.InParts.{row-inside}
use Rattle.numa_rows.proofs.Ranked.{set-one, set-table}
use Rattle.numa_rows.proofs.update.put_row.Goals as goal

pub returns-clause-row : goal.returns-clause-row
returns-clause-row g c =
    let chunk = c.index_mut.result.now in
    let place = c.place_of-place.result in
    let has =
    subst (λ (l : List (List g.row.T.Denot)). HasRank l place.chunk place.start c.args.rank)
    c.deref.ensures.value c.place_of-place.ensures in
    set-one c.args.chunks.now.items _ chunk c.put.new.self c.args.row place.chunk place.start
    c.args.rank has c.index_mut.ensures.value refl c.put.ensures

pub returns-clause-table : goal.returns-clause-table
returns-clause-table g c =
    let chunk = c.index_mut.result.now in
    let place = c.place_of-place.result in
    let has =
    subst (λ (l : List (List g.row.T.Denot)). HasRank l place.chunk place.start c.args.rank)
    c.deref.ensures.value c.place_of-place.ensures in
    set-table 6144 c.args.chunks.now.items _ c.args.starts.now c.args.len chunk c.put.new.self
    c.args.row place.chunk place.start c.args.rank c.requires.table has
    c.index_mut.ensures.value refl c.put.ensures

pub place_of-place-requires-clause-rank : goal.place_of-place-requires-clause-rank
place_of-place-requires-clause-rank g c = c.requires.rank

pub place_of-place-requires-clause-table : goal.place_of-place-requires-clause-table
place_of-place-requires-clause-table g c = table-same 6144 c.args.chunks.now.items
    c.deref.result.now c.args.starts.now c.args.starts.now c.args.len c.deref.ensures.value refl
    c.requires.table

pub put-requires : goal.put-requires
put-requires g c =
    let place = c.place_of-place.result in
    let has =
    subst (λ (l : List (List g.row.T.Denot)). HasRank l place.chunk place.start c.args.rank)
    c.deref.ensures.value c.place_of-place.ensures in
    row-inside c.args.chunks.now.items place.chunk place.start c.args.rank c.index_mut.result.now
    c.index_mut.result.now has c.index_mut.ensures.value refl
