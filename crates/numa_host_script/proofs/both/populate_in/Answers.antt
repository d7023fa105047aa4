use Rattle.std.proofs.Common.{ℕ, ap, sym, ◌∙◌}
use Rattle.numa_huge.specs.Huge.{has_huge}
use Rattle.numa_host_huge.specs.Kept.{spots_in}
use Rattle.numa_page_state.specs.Huge.{has_huge_in, huge_count, huge_first}
use Rattle.numa_script.specs.declared.page_line.PageLine.TheVariants as page
use Rattle.numa_space.specs.History.{page_of}
use Rattle.numa_host_script.specs.Paging.{memory_at}
use Rattle.numa_host_script.proofs.BothActed.{page-nobody}
use Rattle.numa_host_script.proofs.BothPopulated.{small-populates}
use Rattle.numa_host_script.proofs.both.populate_in.Goals as goal

pub populate_both-requires : goal.populate_both-requires
populate_both-requires c =
    ap (λ (n : ℕ). has_huge (spots_in c.args.process c.args.running.now.pages.huge.sharers)
    (huge_first (page_of c.args.said.now.start)) (huge_count (page_of c.args.said.now.start) n))
    (sym c.page_count-pages.ensures.pages)
    ∙ sym c.has_huge_in.ensures.kept ∙ c.if-has_huge_in.true

pub returns-in_default-clause-runs : goal.returns-in_default-clause-runs
returns-in_default-clause-runs c = page-nobody c.args.running.now c.args.process
    (page.Populate c.args.said.now.start c.args.said.now.length c.args.said.now.task
    c.args.said.now.cpu) c.in_default.ensures

pub returns-clause-runs : goal.returns-clause-runs
returns-clause-runs c =
    small-populates c.args.running.now c.args.process c.args.said.now.start
    c.args.said.now.length c.args.said.now.task c.args.said.now.cpu
    (λ history stands. (c.in-Some.ensures history stands).0)
    (λ at stands. ap (λ (n : ℕ).
    has_huge_in (memory_at at c.args.process) (page_of c.args.said.now.start) n)
    (sym c.page_count-pages.ensures.pages)
    ∙ sym (c.has_huge_in.ensures.huge at.lying.huge stands.lies.huge) ∙ c.if-has_huge_in.false)
    c.forget_arrived.new.self c.forget_arrived.ensures c.change_small.new.running
    c.change_small.result c.change_small.ensures.runs
