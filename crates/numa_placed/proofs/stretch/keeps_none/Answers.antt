use Rattle.std.proofs.Common.{sym, ◌∙◌}
use Rattle.std.proofs.lemmas.Bool.{eqb-true}
use Rattle.numa_placed.proofs.Alike.{none-kept}
use Rattle.numa_placed.proofs.stretch.keeps_none.Goals as goal

pub returns : goal.returns
returns c is page inside =
    none-kept c.args.resident.now c.args.first c.args.pages page
    (sym c.count_in.ensures.count ∙ eqb-true c.count_in.result 0 is) inside
