-- What was gathered and edited is cut.
use Rattle.std.proofs.Common.{List, ◌++◌, length, subst, ap, ◌∙◌, arith}
use Rattle.std.specs.Prelude.{IfOk}
use Rattle.std.specs.List.{splice}
use Rattle.numa_rows.specs.Parts.{flat, AreCut}
use Rattle.numa_rows.proofs.edit.recut.Goals as goal

pub put_in-requires-clause-rises : goal.put_in-requires-clause-rises
put_in-requires-clause-rises g c = c.requires.rises

pub put_in-requires-clause-within : goal.put_in-requires-clause-within
put_in-requires-clause-within g c =
    let all = c.in_default.ensures
    ∙ ap (λ l. l ++ flat c.args.chunks.now) c.new-all.ensures.items in
    omega (arith, c.requires.within, ap length all)

pub returns : goal.returns
returns g c =
    let all = c.in_default.ensures
    ∙ ap (λ l. l ++ flat c.args.chunks.now) c.new-all.ensures.items in
    subst (λ (l : List g.row.T.Denot). IfOk c.cut.result (λ pieces.
    AreCut c.args.behind pieces.items l))
    (c.deref.ensures.value ∙ (c.in_default-put_in.ensures.ok
    ∙ ap (λ l. splice l c.args.from c.args.to c.args.rows.now) all))
    c.cut.ensures
