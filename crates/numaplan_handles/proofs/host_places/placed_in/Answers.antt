use Rattle.std.proofs.Common.{ap}
use Rattle.numa_host_pages.specs.Homes.{lent}
use Rattle.numa_host_script.specs.Paging.{pages_at}
use Rattle.numa_page_state.specs.Lying.{Lying}
use Rattle.numaplan_handles.proofs.host_places.placed_in.Goals as goal

pub returns-in-Some : goal.returns-in-Some
returns-in-Some c = λ at runs page.
    let theirs = c.in-Some.ensures at runs in
    c.placed.ensures.lies (lent theirs.0 theirs.1 (pages_at at c.args.process)) theirs.2 page

pub returns-in-None : goal.returns-in-None
returns-in-None c = λ at runs page. ap (λ (l : Lying). l.spots page) (c.in-None.ensures at runs)
