use Rattle.std.proofs.Common.{ℕ, sym, arith}
use Rattle.numa_lines.proofs.Adding.{said_both, said_nothing, said_same}
use Rattle.numa_placed.specs.Spots.{spot_at}
use Rattle.numa_page_state.specs.Sending.{flow_between}
use Rattle.numa_run.proofs.Telling.{all-flows, flows_of, from-alike, texts-more}
use Rattle.numa_run.proofs.Telling.{texts-none}
use Rattle.numa_run.proofs.moved.say_all_flows.Goals as goal

pub loop-from-init : goal.loop-from-init
loop-from-init g c =
    let flow : ℕ → ℕ → ℕ = flow_between (spot_at c.args.before.now) (spot_at c.args.after.now) in
    said_same g.W.Write.contents c.args.output.now c.args.output.now _ _
    (sym (texts-none (flows_of flow)))
    (said_nothing g.W.Write.contents c.args.output.now)

pub loop-from-preserved : goal.loop-from-preserved
loop-from-preserved g c =
    let flow : ℕ → ℕ → ℕ = flow_between (spot_at c.args.before.now) (spot_at c.args.after.now) in
    said_same g.W.Write.contents c.args.output.now c.say_flows_from.new.output _ _
    (sym (texts-more (flows_of flow) c.loop-from.from))
    (said_both g.W.Write.contents c.args.output.now c.loop-from.output
    c.say_flows_from.new.output _ _ c.loop-from.invariant
    (said_same g.W.Write.contents c.loop-from.output c.say_flows_from.new.output _ _
    (from-alike c.loop-from.from _ (flow c.loop-from.from)
    (λ to small. c.flow_from.ensures to small))
    c.say_flows_from.ensures))

pub returns : goal.returns
returns g c =
    let flow : ℕ → ℕ → ℕ = flow_between (spot_at c.args.before.now) (spot_at c.args.after.now) in
    said_same g.W.Write.contents c.args.output.now c.loop-from.output _ _
    (all-flows flow c.loop-from.from
    (omega (arith, c.loop-from.auto.from-end, c.loop-from-test.false))) c.loop-from.invariant
