use Rattle.std.proofs.Common.{arith, ◌*◌, ap, sym, ◌∙◌}
use Rattle.std.specs.Prelude.{is_some}
use Rattle.numa_space.specs.History.{page_count, page_of}
use Rattle.numa_placed.specs.Spots.{spot_at}
use Rattle.numa_placed.specs.declared.spot.Spot.TheVariants.{Nowhere}
use Rattle.numa_huge.specs.Huge.{huge_at}
use Rattle.numa_page_state.proofs.Parts.{parts-forgotten, parts-kept}
use Rattle.numa_page_state.proofs.beside.clear_run.Goals as goal

pub returns-in_default : goal.returns-in_default
returns-in_default c part =
    parts-kept Nowhere (huge_at c.args.huge.now.runs) c.args.first c.args.pages
    (spot_at c.args.placed.now) part c.requires.alike
    (ap is_some (sym c.at.ensures ∙ c.in_default.is))

pub returns-in-Ok : goal.returns-in-Ok
returns-in-Ok c part =
    c.in-Ok.ensures.ok part ∙ parts-forgotten Nowhere (huge_at c.args.huge.now.runs) c.args.first
    c.args.pages (page_of (c.args.first * 2097152)) (page_count (c.args.pages * 2097152))
    (spot_at c.args.placed.now) part (omega arith) (omega arith) c.requires.alike
    (ap is_some (sym c.at.ensures ∙ c.in-Some.is))
