use Rattle.std.proofs.Common.{subst, sym}
use Rattle.numa_page_state.specs.Standing.{LiesAs}
use Rattle.numa_page_state.specs.declared.state.PageState.{PageState}
use Rattle.numa_host_pages.specs.Homes.{lent}
use Rattle.numa_host_pages.proofs.Sums.{both-none}
use Rattle.numa_host_pages.proofs.Walked.{none-lying, some-lying}
use Rattle.numa_host_pages.proofs.summing.add_own.Goals as goal

pub returns-in-None-clause-sum : goal.returns-in-None-clause-sum
returns-in-None-clause-sum c = λ lying sits to small.
    rw (none-lying lying (rw (← c.in-None.is) sits)) (sym (both-none _ (c.requires.small to small)))

pub returns-in-Some-clause-sum : goal.returns-in-Some-clause-sum
returns-in-Some-clause-sum c = λ lying sits to small.
    let has = some-lying c.in-Some.state lying (rw (← c.in-Some.is) sits) in
    rw has.3 (c.add_last.ensures.sum has.0.last (c.last.ensures.lies (lent has.1 has.2 has.0)
    (subst (λ (s : PageState). LiesAs s (lent has.1 has.2 has.0)) (sym c.deref.ensures) has.4))
    to small)
