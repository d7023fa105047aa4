use Rattle.std.proofs.Common.{subst, sym}
use Rattle.std.specs.Prelude.{IfOk}
use Rattle.numa_host_pages.specs.Homes.{lent}
use Rattle.numa_host_pages.specs.Summed.{sent_last}
use Rattle.numa_host_script.specs.Paging.{memory_at, pages_at}
use Rattle.numa_page_state.specs.Lying.{Lying, OfNodes, still}
use Rattle.numaplan_handles.specs.Hosted.{TellsSent, sent_with}
use Rattle.numaplan_handles.proofs.host_places.last_in.Goals as goal

pub returns-in_default : goal.returns-in_default
returns-in_default c = λ at runs. c.in_default.ensures at.history runs.stands

pub returns-in-Some-pages_there : goal.returns-in-Some-pages_there
returns-in-Some-pages_there c = λ at runs.
    let theirs = c.in-Some-pages_there.ensures at runs in (
      (c.in-Some.ensures at.history runs.stands).0,
      c.flows_of.ensures (pages_at at c.args.process).last (memory_at at c.args.process)
          (c.last.ensures.lies (lent theirs.0 theirs.1 (pages_at at c.args.process)) theirs.2)
          (c.last_huge-huge.ensures at runs),
    )

pub returns-in-None : goal.returns-in-None
returns-in-None c = λ at runs. (
  (c.in-Some.ensures at.history runs.stands).0,
  subst (λ (l : Lying). IfOk c.flows_of-in-None.result
      (TellsSent (sent_with (memory_at at c.args.process) (sent_last l.last))))
      (sym (c.in-None.ensures at runs)) (c.flows_of-in-None.ensures (OfNodes still)
      (memory_at at c.args.process) c.still.ensures (c.last_huge-huge.ensures at runs)),
)
