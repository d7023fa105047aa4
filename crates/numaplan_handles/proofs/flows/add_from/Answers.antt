use Rattle.std.proofs.Common.{arith, refl}
use Rattle.std.specs.Prelude.{slice_index}
use Rattle.numaplan_handles.specs.Hosted.{flow_at}
use Rattle.numaplan_handles.proofs.Flowing.{added, begun, ended}
use Rattle.numaplan_handles.proofs.flows.add_from.Goals as goal

pub loop-to-init : goal.loop-to-init
loop-to-init c =
    begun (λ to. flow_at c.args.from to (slice_index c.args.went.now to)) c.args.flows.now.items

pub loop-to-preserved : goal.loop-to-preserved
loop-to-preserved c =
    added (λ to. flow_at c.args.from to (slice_index c.args.went.now to)) c.loop-to.to
    c.args.flows.now.items c.loop-to.flows.items c.add_flow.new.flows.items _
    c.loop-to.invariant c.in-Ok.ensures refl

pub returns : goal.returns
returns c =
    ended (λ to. flow_at c.args.from to (slice_index c.args.went.now to)) c.loop-to.to
    c.args.flows.now.items c.loop-to.flows.items c.loop-to.invariant
    (omega (arith, c.loop-to.auto.to-end, c.loop-to-test.false))
