use Rattle.std.proofs.Common.{ℕ, ap, ◌∙◌}
use Rattle.numa_page_state.specs.Huge.{has_huge_in}
use Rattle.numa_script.specs.declared.page_line.PageLine.TheVariants as page
use Rattle.numa_space.specs.History.{page_of}
use Rattle.numa_host_script.specs.Paging.{memory_at}
use Rattle.numa_host_script.proofs.BothActed.{page-nobody, states-huge, states-small}
use Rattle.numa_host_script.proofs.both.state_in.Goals as goal

pub returns-in_default-clause-runs : goal.returns-in_default-clause-runs
returns-in_default-clause-runs c = page-nobody c.args.running.now c.args.process
    (page.At c.args.start c.args.length c.args.node) c.in_default.ensures

pub returns-then-has_huge_in-clause-runs : goal.returns-then-has_huge_in-clause-runs
returns-then-has_huge_in-clause-runs c =
    states-huge c.args.running.now c.args.process c.args.start c.args.length c.args.node
    c.has_huge_in.result
    (λ at stands. c.has_huge_in.ensures.huge at.lying.huge stands.lies.huge
    ∙ ap (λ (n : ℕ). has_huge_in (memory_at at c.args.process) (page_of c.args.start) n)
    c.page_count-pages.ensures.pages)
    (λ history stands. (c.in-Some.ensures history stands).0) c.if-has_huge_in.true

pub returns-clause-runs : goal.returns-clause-runs
returns-clause-runs c =
    states-small c.args.running.now c.args.process c.args.start c.args.length c.args.node
    c.has_huge_in.result
    (λ at stands. c.has_huge_in.ensures.huge at.lying.huge stands.lies.huge
    ∙ ap (λ (n : ℕ). has_huge_in (memory_at at c.args.process) (page_of c.args.start) n)
    c.page_count-pages.ensures.pages)
    c.change_small.new.running c.change_small.result c.if-has_huge_in.false
    c.change_small.ensures.runs
