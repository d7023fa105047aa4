use Rattle.std.proofs.Common.{ap, sym, ◌∙◌}
use Rattle.std.specs.Prelude.{is_some}
use Rattle.numa_placed.specs.Spots.{spot_at}
use Rattle.numa_placed.specs.declared.spot.Spot.TheVariants.{Stated}
use Rattle.numa_huge.specs.Huge.{huge_at}
use Rattle.numa_page_state.proofs.Parts.{parts-kept, parts-set}
use Rattle.numa_page_state.proofs.beside.mark_run.Goals as goal

pub returns-in_default : goal.returns-in_default
returns-in_default c part =
    parts-kept (Stated 0) (huge_at c.args.huge.now.runs) c.args.first c.args.pages
    (spot_at c.args.placed.now) part c.requires.alike
    (ap is_some (sym c.at.ensures ∙ c.in_default.is))

pub returns-in-Ok : goal.returns-in-Ok
returns-in-Ok c part =
    c.in-Ok.ensures.ok part ∙ parts-set (Stated 0) (huge_at c.args.huge.now.runs) c.args.first
    c.args.pages (spot_at c.args.placed.now) part c.requires.alike
    (ap is_some (sym c.at.ensures ∙ c.in-Some.is))
