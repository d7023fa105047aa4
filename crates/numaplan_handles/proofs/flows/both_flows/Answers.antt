use Rattle.std.proofs.Common.{Some, refl}
use Rattle.numa_host_pages.specs.Summed.{sent_last}
use Rattle.numaplan_handles.specs.Hosted.{sent_with}
use Rattle.numaplan_handles.proofs.BothSizes.{both-left, both-moved}
use Rattle.numaplan_handles.proofs.Flowing.{flows-told}
use Rattle.numaplan_handles.proofs.flows.both_flows.Goals as goal

pub returns : goal.returns
returns c = λ done memory tells told.
    let sum = c.both_shifts-sum.ensures done tells in
    flows-told (sent_with (Some memory) (sent_last done)) c.with_flows.result
    c.add_both-added.result c.add_both-added.new.flows.items c.new-flows.result.items
    c.both_shifts-sum.result.moved c.both_shifts-sum.result.left c.new-flows.ensures.items
    c.with_flows.ensures (c.add_both-added.ensures done memory tells told)
    (both-moved memory c.args.huge.now told (sent_last done) (sent_last done).moved
    c.both_shifts-sum.result.moved refl sum.0)
    (both-left memory c.args.huge.now told (sent_last done) (sent_last done).left
    c.both_shifts-sum.result.left refl sum.1)
