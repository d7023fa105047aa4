use Rattle.std.proofs.Common.{None, ◌∙◌, ap, subst}
use Rattle.std.proofs.lemmas.List.{get_or_read}
use Rattle.numa_huge.specs.Huge.{huge_at, most_pages, places_of, with_span}
use Rattle.numa_huge.specs.Kept.{Keeps}
use Rattle.numa_huge.specs.declared.pages.HugePages.{HugePages}
use Rattle.numa_host_huge.specs.declared.sharer.Sharer.{Sharer}
use Rattle.numa_host_huge.proofs.sharer.pools_without.Goals as goal

pub returns-clause-keeps : goal.returns-clause-keeps
returns-clause-keeps c = λ d.
    subst (λ (p : HugePages). Keeps (places_of p.places) (record {
      pools = c.pools_without.result;
      spots = with_span 0 most_pages None (huge_at p.places.runs);
    })) (c.deref.ensures ∙ ap (λ (s : Sharer). s.pages.value)
    (get_or_read c.args.sharers.now c.args.place c.index-sharers-place.result c.requires
    c.index-sharers-place.is d)) c.pools_without.ensures.keeps
