-- The value that the row's number has, or what the edit makes of it.
use Rattle.std.proofs.Common.{◌≡◌, Some, refl, sym, ◌∙◌}
use Rattle.std.specs.Prelude.{slice_get}
use Rattle.std.proofs.lemmas.Fn.{says_at}
use Rattle.std.proofs.lemmas.Option.{slice_get_read}
use Rattle.numa_ranges.specs.Edited.{edited_value}
use Rattle.numa_ranges.proofs.edited_row.value_of.Goals as goal

pub returns-then-row : goal.returns-then-row
returns-then-row g c change gives =
    let got = c.in-Some.ensures.lookup in
    let there : slice_get c.args.values.now c.args.row.now.number ≡ Some c.in-Some.value.now =
    slice_get_read c.args.values.now _ c.args.row.now.number c.in-Some.value.now refl got.3.0
    got.1 in
    gives _ _ (says_at g.F.Fn c.edit.ensures refl)
    ∙ sym (λ i. edited_value change (c.if-row.true i) (there i))

pub returns : goal.returns
returns g c change gives =
    let got = c.in-Some.ensures.lookup in
    let there : slice_get c.args.values.now c.args.row.now.number ≡ Some c.in-Some.value.now =
    slice_get_read c.args.values.now _ c.args.row.now.number c.in-Some.value.now refl got.3.0
    got.1 in
    sym (λ i. edited_value change (c.if-row.false i) (there i))
