use Rattle.std.proofs.Common.{ℕ, arith}
use Rattle.numa_host_pages.specs.Summed.{sum_in}
use Rattle.numaplan_handles.specs.Hosted.{flows_from}
use Rattle.numaplan_handles.proofs.Flowing.{added, begun, ended, from-alike}
use Rattle.numaplan_handles.proofs.flows.add_sums.Goals as goal

pub loop-from-init : goal.loop-from-init
loop-from-init c = λ at lies.
    begun (λ from. flows_from from ((sum_in at).flow from)) c.args.flows.now.items

pub loop-from-preserved : goal.loop-from-preserved
loop-from-preserved c = λ at lies.
    let flow : ℕ → ℕ → ℕ = (sum_in at).flow in
    added (λ from. flows_from from (flow from)) c.loop-from.from c.args.flows.now.items
    c.loop-from.flows.items c.add_from.new.flows.items _ (c.loop-from.invariant at lies)
    c.in-Ok.ensures
    (from-alike c.loop-from.from _ (flow c.loop-from.from)
    (λ to small. c.flow_from.ensures at lies to small))

pub returns : goal.returns
returns c = λ at lies.
    ended (λ from. flows_from from ((sum_in at).flow from)) c.loop-from.from
    c.args.flows.now.items c.loop-from.flows.items (c.loop-from.invariant at lies)
    (omega (arith, c.loop-from.auto.from-end, c.loop-from-test.false))
