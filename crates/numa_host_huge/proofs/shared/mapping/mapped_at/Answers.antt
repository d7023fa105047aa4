use Rattle.std.proofs.Common.{IfErr, IfOk, Some, ◌∙◌, ap, subst}
use Rattle.std.proofs.lemmas.List.{get_or_read}
use Rattle.numa_huge.specs.Huge.{fresh_spot, huge_at, places_of, with_span}
use Rattle.numa_huge.specs.Kept.{Keeps}
use Rattle.numa_huge.specs.Tallies.{IsLackFor}
use Rattle.numa_huge.specs.declared.pages.HugePages.{HugePages}
use Rattle.numa_host_huge.specs.declared.sharer.Sharer.{Sharer}
use Rattle.numa_host_huge.proofs.shared.mapping.mapped_at.Goals as goal

pub returns-clause-keeps : goal.returns-clause-keeps
returns-clause-keeps c = λ d.
    subst (λ (p : HugePages). IfOk c.mapped.result (λ after.
    Keeps (places_of p.places) (places_of after)))
    (c.deref.ensures ∙ ap (λ (s : Sharer). s.pages.value)
    (get_or_read c.args.sharers.now c.args.place c.index-sharers-place.result c.requires.place
    c.index-sharers-place.is d)) c.mapped.ensures.keeps

pub returns-clause-err : goal.returns-clause-err
returns-clause-err c = λ d.
    subst (λ (p : HugePages). IfErr c.mapped.result (IsLackFor (with_span c.args.first c.args.pages
    (Some (fresh_spot c.args.reserves)) (huge_at p.places.runs))))
    (c.deref.ensures ∙ ap (λ (s : Sharer). s.pages.value)
    (get_or_read c.args.sharers.now c.args.place c.index-sharers-place.result c.requires.place
    c.index-sharers-place.is d)) c.mapped.ensures.err
