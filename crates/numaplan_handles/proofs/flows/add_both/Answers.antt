use Rattle.std.proofs.Common.{Some, arith, slice_index}
use Rattle.numa_host_pages.specs.Summed.{sent_last}
use Rattle.numaplan_handles.specs.Hosted.{flows_from, sent_with}
use Rattle.numaplan_handles.proofs.BothSizes.{both-went}
use Rattle.numaplan_handles.proofs.Flowing.{added, begun, ended, from-alike}
use Rattle.numaplan_handles.proofs.flows.add_both.Goals as goal

pub loop-from-init : goal.loop-from-init
loop-from-init c = λ done memory tells told.
    begun (λ from. flows_from from ((sent_with (Some memory) (sent_last done)).flow from))
    c.args.flows.now.items

pub loop-from-preserved : goal.loop-from-preserved
loop-from-preserved c = λ done memory tells told.
    let flow = (sent_with (Some memory) (sent_last done)).flow in
    added (λ from. flows_from from (flow from)) c.loop-from.from c.args.flows.now.items
    c.loop-from.flows.items c.add_from.new.flows.items _
    (c.loop-from.invariant done memory tells told) c.in-Ok.ensures
    (from-alike c.loop-from.from _ (flow c.loop-from.from)
    (λ to small. both-went memory c.args.huge.now told (sent_last done) c.loop-from.from to
    (slice_index c.small_row.result to) (slice_index c.flow_from.result to)
    (slice_index c.both_rows-row.result to) (omega (arith, c.loop-from-test.true)) small
    (c.small_row.ensures done tells to small) (c.flow_from.ensures to small)
    (c.both_rows-row.ensures to small)))

pub returns : goal.returns
returns c = λ done memory tells told.
    ended (λ from. flows_from from ((sent_with (Some memory) (sent_last done)).flow from))
    c.loop-from.from c.args.flows.now.items c.loop-from.flows.items
    (c.loop-from.invariant done memory tells told)
    (omega (arith, c.loop-from.auto.from-end, c.loop-from-test.false))
