use Rattle.std.proofs.Common.{ℕ, arith}
use Rattle.numa_page_state.specs.Sending.{flow_between}
use Rattle.numa_placed.specs.Spots.{spot_at}
use Rattle.numaplan_handles.specs.Hosted.{flows_from}
use Rattle.numaplan_handles.proofs.Flowing.{added, begun, ended, from-alike}
use Rattle.numaplan_handles.proofs.flows.add_departed.Goals as goal

pub loop-from-init : goal.loop-from-init
loop-from-init c =
    let flow : ℕ → ℕ → ℕ =
    flow_between (spot_at c.args.gone.now.before) (spot_at c.args.gone.now.after) in
    begun (λ from. flows_from from (flow from)) c.args.flows.now.items

pub loop-from-preserved : goal.loop-from-preserved
loop-from-preserved c =
    let flow : ℕ → ℕ → ℕ =
    flow_between (spot_at c.args.gone.now.before) (spot_at c.args.gone.now.after) in
    added (λ from. flows_from from (flow from)) c.loop-from.from c.args.flows.now.items
    c.loop-from.flows.items c.add_from.new.flows.items _ c.loop-from.invariant c.in-Ok.ensures
    (from-alike c.loop-from.from _ (flow c.loop-from.from)
    (λ to small. c.flow_from.ensures to small))

pub returns : goal.returns
returns c =
    let flow : ℕ → ℕ → ℕ =
    flow_between (spot_at c.args.gone.now.before) (spot_at c.args.gone.now.after) in
    ended (λ from. flows_from from (flow from)) c.loop-from.from c.args.flows.now.items
    c.loop-from.flows.items c.loop-from.invariant
    (omega (arith, c.loop-from.auto.from-end, c.loop-from-test.false))
