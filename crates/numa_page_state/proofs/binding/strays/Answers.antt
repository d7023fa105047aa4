use Rattle.std.proofs.Common.{◌||◌, Bool, ap, sym, ◌∙◌, arith}
use Rattle.numa_ranges.specs.Runs.{page_at}
use Rattle.numa_space.specs.History.{page_of}
use Rattle.numa_placed.specs.Astray.{judged_pages}
use Rattle.numa_page_state.proofs.Judging.{astray-seen}
use Rattle.numa_page_state.proofs.binding.strays.Goals as goal

pub judged_pages-pages-requires : goal.judged_pages-pages-requires
judged_pages-pages-requires c = omega (arith, c.page_count.ensures.at_most)

pub returns-then-stated : goal.returns-then-stated
returns-then-stated c = λ spots history is stands.
    let seen = astray-seen c.args.space.now history c.args.resident.now spots
    c.args.said.now c.judged_pages-pages.result c.args.stated
    c.held_astray-held.result stands is
    (c.judged_pages-pages.ensures.judged
    ∙ ap (λ n. judged_pages c.args.space.now.machine.rules (page_at c.args.space.now.ranges)
    (page_of c.args.said.now.start) n) c.page_count.ensures.pages) c.held_astray-held.ensures in
    c.if-stated.true ∙ sym (ap (λ (b : Bool). b || c.held_astray-held.result) c.if-stated.true)
    ∙ seen

pub returns-else-stated : goal.returns-else-stated
returns-else-stated c = λ spots history is stands.
    let seen = astray-seen c.args.space.now history c.args.resident.now spots
    c.args.said.now c.judged_pages-pages.result c.args.stated
    c.held_astray-held.result stands is
    (c.judged_pages-pages.ensures.judged
    ∙ ap (λ n. judged_pages c.args.space.now.machine.rules (page_at c.args.space.now.ranges)
    (page_of c.args.said.now.start) n) c.page_count.ensures.pages) c.held_astray-held.ensures in
    sym (ap (λ (b : Bool). b || c.held_astray-held.result) c.if-stated.false) ∙ seen
