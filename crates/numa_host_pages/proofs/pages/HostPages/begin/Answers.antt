use Rattle.numa_page_state.specs.Lying.{nothing}
use Rattle.numa_host_pages.specs.Homes.{lent}
use Rattle.numa_host_pages.proofs.Places.{if-boxed}
use Rattle.numa_host_pages.proofs.pages.HostPages.begin.Goals as goal

pub returns : goal.returns
returns c = λ at lies.
    let now = c.lend.ensures nothing at.room c.in-Ok.ensures lies.room in
    if-boxed c.boxed.result _ (lent at.room at.follows nothing) c.boxed.ensures
    (rw (← lies.follows) now)
