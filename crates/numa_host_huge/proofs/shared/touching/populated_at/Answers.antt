use Rattle.std.proofs.Common.{IfOk, ◌∙◌, ap, subst}
use Rattle.std.proofs.lemmas.List.{get_or_read}
use Rattle.numa_huge.specs.Huge.{places_of}
use Rattle.numa_huge.specs.Kept.{Keeps}
use Rattle.numa_huge.specs.declared.pages.HugePages.{HugePages}
use Rattle.numa_host_huge.specs.declared.sharer.Sharer.{Sharer}
use Rattle.numa_host_huge.proofs.shared.touching.populated_at.Goals as goal

pub returns-clause-keeps : goal.returns-clause-keeps
returns-clause-keeps c = λ d.
    subst (λ (p : HugePages). IfOk c.huge_populated.result (λ done.
    Keeps (places_of p.places) (places_of done.0)))
    (c.deref.ensures ∙ ap (λ (s : Sharer). s.pages.value)
    (get_or_read c.args.sharers.now c.args.place c.index-sharers-place.result c.requires
    c.index-sharers-place.is d)) c.huge_populated.ensures.keeps
