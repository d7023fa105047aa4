use Rattle.std.proofs.Common.{subst, sym}
use Rattle.numa_host_pages.specs.Homes.{lent}
use Rattle.numa_host_script.specs.Paging.{pages_at}
use Rattle.numa_page_state.specs.Lying.{Lying}
use Rattle.numa_page_state.specs.Standing.{ArrivedAs}
use Rattle.numaplan_handles.proofs.host_pages.small_arrived.Goals as goal

pub returns-in-Some : goal.returns-in-Some
returns-in-Some c = λ at runs.
    let theirs = c.in-Some.ensures at runs in
    c.arrived.ensures (lent theirs.0 theirs.1 (pages_at at c.args.process)) theirs.2

pub returns-in-None : goal.returns-in-None
returns-in-None c = λ at runs.
    subst (λ (l : Lying). ArrivedAs c.untouched.result l.arrived)
    (sym (c.in-None.ensures at runs)) c.untouched.ensures
