-- One chunk more.
use Rattle.std.proofs.Common.{◌-◌, ◌++◌, ◌∷◌, [], length, ap, refl, ◌∙◌, arith}
use Rattle.numa_rows.proofs.Windows.{long-all}
use Rattle.numa_rows.proofs.Editing.{added-part}
use Rattle.numa_rows.proofs.edit.add_chunk.Goals as goal

pub returns-clause-ok : goal.returns-clause-ok
returns-clause-ok g c =
    let parts = c.args.chunks.now.items in
    let rows = c.args.rows.now in
    let long = long-all 6144 parts (length parts - 1) [] c.requires.table.filled
    (λ some. omega (arith, some)) (λ some. c.requires.full some []) in
    added-part 6144 parts c.add_piece.new.chunks.items c.args.starts.now.items
    c.push_reserved.new.self.items c.args.len rows rows c.requires.table refl
    c.in_default-add_piece.ensures.ok (c.push_reserved.ensures.items
    ∙ ap (λ l. l ++ c.args.len ∷ []) c.reserve.ensures.items) c.requires.some c.requires.most
    c.requires.few long
