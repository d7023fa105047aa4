use Rattle.std.proofs.Common.{ℕ, ap, sym, ◌∙◌}
use Rattle.numa_page_state.specs.Huge.{has_huge_in}
use Rattle.numa_space.specs.History.{page_of}
use Rattle.numa_run.proofs.Obeys.{unmap-small}
use Rattle.numa_run.proofs.running.Running.unmap.Goals as goal

pub unmap_huge-requires : goal.unmap_huge-requires
unmap_huge-requires c = λ memory stands.
    ap (λ (n : ℕ). has_huge_in memory (page_of c.args.start) n) (sym c.page_count.ensures.pages)
    ∙ sym (c.has_huge_in.ensures memory stands) ∙ c.if-has_huge_in.true

pub returns : goal.returns
returns c =
    unmap-small c.args.self.now c.unmap_small.new.self c.unmap_small.result c.args.start
    c.args.length c.has_huge_in.result
    (λ memory stands. c.has_huge_in.ensures memory stands
    ∙ ap (λ (n : ℕ). has_huge_in memory (page_of c.args.start) n) c.page_count.ensures.pages)
    c.if-has_huge_in.false c.unmap_small.ensures
