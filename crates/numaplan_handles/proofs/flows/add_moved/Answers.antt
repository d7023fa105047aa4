use Rattle.std.proofs.Common.{arith}
use Rattle.numa_host_pages.specs.Summed.{flow_told}
use Rattle.numaplan_handles.specs.Hosted.{flows_from}
use Rattle.numaplan_handles.proofs.Flowing.{added, begun, ended, to-one}
use Rattle.numaplan_handles.proofs.flows.add_moved.Goals as goal

pub loop-from-init : goal.loop-from-init
loop-from-init c = λ told tells.
    begun (λ from. flows_from from (flow_told told from)) c.args.flows.now.items

pub loop-from-preserved : goal.loop-from-preserved
loop-from-preserved c = λ told tells.
    added (λ from. flows_from from (flow_told told from)) c.loop-from.from
    c.args.flows.now.items c.loop-from.flows.items c.add_from.new.flows.items _
    (c.loop-from.invariant told tells) c.in-Ok.ensures
    (to-one told c.args.moved.now c.loop-from.from c.to_one.result
    (omega (arith, c.loop-from-test.true)) tells c.to_one.ensures)

pub returns : goal.returns
returns c = λ told tells.
    ended (λ from. flows_from from (flow_told told from)) c.loop-from.from
    c.args.flows.now.items c.loop-from.flows.items (c.loop-from.invariant told tells)
    (omega (arith, c.loop-from.auto.from-end, c.loop-from-test.false))
