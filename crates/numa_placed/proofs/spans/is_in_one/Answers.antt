use Rattle.std.proofs.Common.{◌∙◌, arith, sym}
use Rattle.numa_ranges.proofs.Apart.{in_pages-true}
use Rattle.numa_ranges.proofs.Laws.{inside}
use Rattle.numa_placed.proofs.Stating.{in-range}
use Rattle.numa_placed.proofs.spans.is_in_one.Goals as goal

pub returns : goal.returns
returns c is page there =
    let ends = inside c.args.first c.args.pages page there in
    let range = c.in-Some.range in
    in-range c.args.space.now.ranges c.saturating_sub-place.result range page
    (sym c.range_at.ensures.range ∙ c.in-Some.is)
    (in_pages-true range.first range.pages page (omega (arith, ends)) (omega (arith, ends)))
