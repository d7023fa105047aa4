use Rattle.std.proofs.Common.{ap, sym, subst, ◌∙◌}
use Rattle.numa_huge.specs.Huge.{huge_at}
use Rattle.numa_huge.specs.Kept.{HavePages}
use Rattle.numa_huge.specs.declared.pages.HugePages.{HugePages}
use Rattle.numa_host_huge.specs.declared.sharer.Sharer.{Sharer}
use Rattle.numa_host_huge.proofs.sharer.lend_at.Goals as goal

pub lend-requires : goal.lend-requires
lend-requires c =
    subst (λ (p : HugePages). HavePages c.args.pools.now (huge_at p.places.runs))
    (sym (c.deref_mut.ensures.value
    ∙ ap (λ (s : Sharer). s.pages.value) c.index_mut-sharer.ensures.value))
    (c.requires.pools c.index_mut-sharer.result.now)
