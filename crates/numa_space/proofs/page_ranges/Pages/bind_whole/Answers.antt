use Rattle.std.proofs.Common.{◌≡◌, true, not, is_some, refl, ap, sym, ◌∙◌}
use Rattle.numa_ranges.specs.Maps.{any_page}
use Rattle.numa_ranges.specs.Runs.{page_at}
use Rattle.numa_space.specs.Edits.{PageRanges}
use Rattle.numa_space.specs.contracts.range_record.RangeRecordPartialEq.TheImpl as range_test
use Rattle.numa_space.proofs.SameTest.{range_test-same}
use Rattle.numa_space.proofs.Editing.{set-edit}
use Rattle.numa_space.proofs.Ends.{past-hole}
use Rattle.numa_space.proofs.page_ranges.Pages.bind_whole.Goals as goal

pub returns-clause-edit : goal.returns-clause-edit
returns-clause-edit c =
    set-edit range_test.ghosts.eq range_test-same c.self.inside.map c.set_span.new.self
    c.args.self.now c.self.view_is c.args.first c.args.pages c.set_span.result c.answered.result
    c.answered.ensures c.set_span.ensures.unchanged
    _ _ refl c.set_span.ensures.ok c.set_span.ensures.accepted
    c.set_span.ensures.err

pub returns-then-first-pages-gt-PAGES_END-clause-edit :
    goal.returns-then-first-pages-gt-PAGES_END-clause-edit
returns-then-first-pages-gt-PAGES_END-clause-edit c =
    let hole : any_page (λ page. not (is_some (page_at c.args.self.now.runs page))) c.args.first
    c.args.pages ≡ true =
    ap (λ (s : PageRanges). any_page (λ page. not (is_some (page_at s.runs page))) c.args.first
    c.args.pages) (sym c.self.view_is)
    ∙ past-hole c.self.inside.map.runs c.args.first c.args.pages c.iter.ensures.rising
    c.requires.some c.if-first-pages-gt-PAGES_END.true in
    rw hole (refl, refl)
