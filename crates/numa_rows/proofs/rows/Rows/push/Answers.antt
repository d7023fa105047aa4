-- One row in the place of none behind all others.
use Rattle.std.proofs.Common.{◌≡◌, ◌++◌, ◌∷◌, [], length, ap, ◌∙◌}
use Rattle.std.proofs.lemmas.Result.{on_ok_weaker}
use Rattle.numa_rows.proofs.Editing.{behind-all}
use Rattle.numa_rows.proofs.rows.Rows.push.Goals as goal

pub returns-clause-ok : goal.returns-clause-ok
returns-clause-ok g c =
    let size : c.splice.inside.len ≡ length c.args.self.now = c.splice.invariant.count
    ∙ ap length c.splice.view_is in
    let one : c.deref.result.now ≡ c.args.row ∷ [] = c.deref.ensures.value
    ∙ (c.push_reserved.ensures.items
    ∙ ap (λ l. l ++ c.args.row ∷ []) c.in-Ok.ensures.items) in
    on_ok_weaker c.splice-2.result
    (λ so. so ∙ behind-all c.args.self.now c.deref.result.now c.splice.inside.len c.args.row
    size one) c.splice-2.ensures.ok
