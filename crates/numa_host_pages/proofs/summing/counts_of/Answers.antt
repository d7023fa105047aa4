use Rattle.std.proofs.Common.{refl, subst, sym}
use Rattle.numa_page_state.specs.Standing.{LiesAs}
use Rattle.numa_page_state.specs.declared.state.PageState.{PageState}
use Rattle.numa_host_pages.specs.Homes.{lent}
use Rattle.numa_host_pages.proofs.Walked.{none-lying, some-lying}
use Rattle.numa_host_pages.proofs.summing.counts_of.Goals as goal

pub returns-in-None : goal.returns-in-None
returns-in-None c = λ lying sits.
    rw (none-lying lying (rw (← c.in-None.is) sits)) (refl, refl)

pub returns-in-Some : goal.returns-in-Some
returns-in-Some c = λ lying sits.
    let has = some-lying c.in-Some.state lying (rw (← c.in-Some.is) sits) in
    rw has.3 (c.counts_in.ensures has.0.last (c.last.ensures.lies (lent has.1 has.2 has.0)
    (subst (λ (s : PageState). LiesAs s (lent has.1 has.2 has.0)) (sym c.deref.ensures) has.4)))
