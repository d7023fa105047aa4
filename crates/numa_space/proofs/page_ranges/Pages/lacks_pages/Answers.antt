use Rattle.std.proofs.Common.{◌≡◌, Bool, true, not, is_some, ap, sym, ◌∙◌}
use Rattle.numa_ranges.specs.Maps.{any_page}
use Rattle.numa_ranges.specs.Runs.{page_at}
use Rattle.numa_space.specs.Edits.{PageRanges}
use Rattle.numa_space.specs.Refusals.{lacks_pages}
use Rattle.numa_space.proofs.Ends.{past-hole}
use Rattle.numa_space.proofs.page_ranges.Pages.lacks_pages.Goals as goal

pub returns-then-first-pages-gt-PAGES_END : goal.returns-then-first-pages-gt-PAGES_END
returns-then-first-pages-gt-PAGES_END c =
    let hole : any_page (λ page. not (is_some (page_at c.args.self.now.runs page))) c.args.first
    c.args.pages ≡ true =
    ap (λ (s : PageRanges). any_page (λ page. not (is_some (page_at s.runs page))) c.args.first
    c.args.pages) (sym c.self.view_is)
    ∙ past-hole c.self.inside.map.runs c.args.first c.args.pages c.iter.ensures.rising
    c.requires.some c.if-first-pages-gt-PAGES_END.true in
    sym (ap (λ (b : Bool). lacks_pages b (page_at c.args.self.now.runs) c.args.first c.args.pages)
    c.if-passes_holes.false ∙ hole)
