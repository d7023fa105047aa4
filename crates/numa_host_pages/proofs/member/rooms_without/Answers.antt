use Rattle.std.proofs.Common.{false, sym, subst}
use Rattle.numa_page_state.specs.Standing.{LiesAs}
use Rattle.numa_page_state.specs.declared.state.PageState.{PageState}
use Rattle.numa_host_pages.specs.Homes.{lent}
use Rattle.numa_host_pages.proofs.Walked.{some-lying}
use Rattle.numa_host_pages.proofs.member.rooms_without.Goals as goal

pub returns : goal.returns
returns c = λ lying room sits have.
    let has = some-lying c.in-Some.state lying (rw (← c.in-Some.is) sits) in
    let had = lent has.1 has.2 has.0 in
    let now = c.lend.ensures had room
    (subst (λ (s : PageState). LiesAs s had) (sym c.deref_mut.ensures.value) has.4) have in
    rw has.3 (c.rooms_without-left.ensures (lent room false has.0)
    (subst (λ (s : PageState). LiesAs s (lent room false has.0)) (sym c.deref.ensures) now))
