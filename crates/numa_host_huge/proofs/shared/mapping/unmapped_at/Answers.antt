use Rattle.std.proofs.Common.{IfErr, IfOk, None, ◌∙◌, ap, subst}
use Rattle.std.proofs.lemmas.List.{get_or_read}
use Rattle.numa_space.specs.History.{page_count, page_of}
use Rattle.numa_huge.specs.Huge.{huge_at, places_of, with_span}
use Rattle.numa_huge.specs.Kept.{Keeps}
use Rattle.numa_huge.specs.Tallies.{IsLackFor}
use Rattle.numa_page_state.specs.Huge.{huge_count, huge_first}
use Rattle.numa_huge.specs.declared.pages.HugePages.{HugePages}
use Rattle.numa_host_huge.specs.declared.sharer.Sharer.{Sharer}
use Rattle.numa_host_huge.proofs.shared.mapping.unmapped_at.Goals as goal

pub returns-clause-keeps : goal.returns-clause-keeps
returns-clause-keeps c = λ d.
    subst (λ (p : HugePages). IfOk c.huge_without.result (λ after.
    Keeps (places_of p.places) (places_of after)))
    (c.deref.ensures ∙ ap (λ (s : Sharer). s.pages.value)
    (get_or_read c.args.sharers.now c.args.place c.index-sharers-place.result c.requires.place
    c.index-sharers-place.is d)) c.huge_without.ensures.keeps

pub returns-clause-err : goal.returns-clause-err
returns-clause-err c = λ d.
    subst (λ (p : HugePages). IfErr c.huge_without.result (IsLackFor (with_span
    (huge_first (page_of c.args.start))
    (huge_count (page_of c.args.start) (page_count c.args.bytes)) None (huge_at p.places.runs))))
    (c.deref.ensures ∙ ap (λ (s : Sharer). s.pages.value)
    (get_or_read c.args.sharers.now c.args.place c.index-sharers-place.result c.requires.place
    c.index-sharers-place.is d)) c.huge_without.ensures.err
