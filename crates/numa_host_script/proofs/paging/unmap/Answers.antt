use Rattle.std.proofs.Common.{ℕ, ap, sym, ◌∙◌}
use Rattle.numa_huge.specs.Huge.{has_huge}
use Rattle.numa_host_huge.specs.Kept.{spots_in}
use Rattle.numa_page_state.specs.Huge.{has_huge_in, huge_count, huge_first}
use Rattle.numa_space.specs.History.{page_of}
use Rattle.numa_host_script.specs.Paging.{memory_at}
use Rattle.numa_host_script.proofs.UnmappedBoth.{small-unmaps}
use Rattle.numa_host_script.proofs.paging.unmap.Goals as goal

pub unmap_huge-requires : goal.unmap_huge-requires
unmap_huge-requires c =
    ap (λ (n : ℕ). has_huge (spots_in c.args.process c.args.running.now.pages.huge.sharers)
    (huge_first (page_of c.args.start)) (huge_count (page_of c.args.start) n))
    (sym c.page_count-pages.ensures.pages)
    ∙ sym c.has_huge_in.ensures.kept ∙ c.if-has_huge_in.true

pub returns-clause-runs : goal.returns-clause-runs
returns-clause-runs c =
    small-unmaps c.args.running.now c.args.process c.args.start c.args.length
    c.unmap_small.new.running c.unmap_small.result
    (λ at stands. ap (λ (n : ℕ). has_huge_in (memory_at at c.args.process) (page_of c.args.start) n)
    (sym c.page_count-pages.ensures.pages)
    ∙ sym (c.has_huge_in.ensures.huge at.lying.huge stands.lies.huge) ∙ c.if-has_huge_in.false)
    c.unmap_small.ensures.runs
