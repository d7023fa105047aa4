-- The value that was read stands under the row's number.
use Rattle.std.proofs.Common.{List, [], ◌∷◌, sym, ap, ◌∙◌}
use Rattle.numa_ranges.specs.declared.run.Run.{Run}
use Rattle.numa_ranges.proofs.Numbered.{one-run}
use Rattle.numa_ranges.proofs.row.with_value.Goals as goal

pub returns : goal.returns
returns g c =
    let row = c.args.row in
    let run : g.row.T.Denot → List (Run g.row.T.Denot) =
    λ v. record { first = row.first; pages = row.pages; index = row.index; value = v } ∷ [] in
    one-run c.args.values.now row c.index-values-row.result c.requires
    ∙ ap run (sym c.index-values-row.is)
