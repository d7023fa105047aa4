use Rattle.std.proofs.Common.{ℕ, ◌+◌, slice_index, sym, arith}
use Rattle.numa_lines.proofs.Adding.{said_both, said_nothing, said_same}
use Rattle.numa_run.proofs.Telling.{flow_from, flows-from_all, texts-more, texts-none}
use Rattle.numa_run.proofs.moved.say_both_flows_from.Goals as goal

pub loop-to-init : goal.loop-to-init
loop-to-init g c =
    let flow : ℕ → ℕ =
    λ to. slice_index c.args.small.now to + slice_index c.args.huge.now to in
    said_same g.W.Write.contents c.args.output.now c.args.output.now _ _
    (sym (texts-none (flow_from c.args.from flow)))
    (said_nothing g.W.Write.contents c.args.output.now)

pub loop-to-preserved : goal.loop-to-preserved
loop-to-preserved g c =
    let flow : ℕ → ℕ =
    λ to. slice_index c.args.small.now to + slice_index c.args.huge.now to in
    said_same g.W.Write.contents c.args.output.now c.say_both_flow.new.output _ _
    (sym (texts-more (flow_from c.args.from flow) c.loop-to.to))
    (said_both g.W.Write.contents c.args.output.now c.loop-to.output c.say_both_flow.new.output _ _
    c.loop-to.invariant c.say_both_flow.ensures)

pub returns : goal.returns
returns g c =
    let flow : ℕ → ℕ =
    λ to. slice_index c.args.small.now to + slice_index c.args.huge.now to in
    said_same g.W.Write.contents c.args.output.now c.loop-to.output _ _
    (flows-from_all c.args.from flow c.loop-to.to
    (omega (arith, c.loop-to.auto.to-end, c.loop-to-test.false))) c.loop-to.invariant
