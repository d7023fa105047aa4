use Rattle.std.proofs.Common.{Option, subst, sym}
use Rattle.std.specs.Prelude.{IfOk}
use Rattle.numa_host_pages.specs.Summed.{sent_last}
use Rattle.numa_huge.specs.Moves.{HugeMemory}
use Rattle.numaplan_handles.specs.Hosted.{TellsSent, sent_with}
use Rattle.numaplan_handles.proofs.BothSizes.{flows-both}
use Rattle.numaplan_handles.proofs.flows.flows_of.Goals as goal

pub returns-in-Some : goal.returns-in-Some
returns-in-Some c = rw c.in-Some.is (λ done memory tells told.
    flows-both memory c.in-Some.huge.now (sent_last done) c.both_flows.result told
    (λ memory' told'. c.both_flows.ensures done memory' tells told'))

pub returns-in-None : goal.returns-in-None
returns-in-None c = rw c.in-None.is (λ done memory tells none.
    subst (λ (m : Option HugeMemory). IfOk c.small_flows.result
    (TellsSent (sent_with m (sent_last done)))) (sym none) (c.small_flows.ensures done tells))
