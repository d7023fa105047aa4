use Rattle.std.proofs.Common.{ℕ, slice_index, sym, arith}
use Rattle.numa_lines.proofs.Adding.{said_both, said_nothing, said_same}
use Rattle.numa_run.proofs.Flows.{flows-none, flows-more, flows-all}
use Rattle.numa_run.proofs.moved.say_flows.Goals as goal

pub loop-node-init : goal.loop-node-init
loop-node-init g c =
    let from : ℕ → ℕ = slice_index c.args.from.now in
    let to : ℕ → ℕ = slice_index c.args.to.now in
    said_same g.W.Write.contents c.args.output.now c.args.output.now _ _ (sym (flows-none from to))
    (said_nothing g.W.Write.contents c.args.output.now)

pub loop-node-preserved : goal.loop-node-preserved
loop-node-preserved g c =
    let from : ℕ → ℕ = slice_index c.args.from.now in
    let to : ℕ → ℕ = slice_index c.args.to.now in
    said_same g.W.Write.contents c.args.output.now c.say_flow.new.output _ _
    (sym (flows-more from to c.loop-node.node))
    (said_both g.W.Write.contents c.args.output.now c.loop-node.output c.say_flow.new.output _ _
    c.loop-node.invariant c.say_flow.ensures)

pub returns : goal.returns
returns g c =
    let from : ℕ → ℕ = slice_index c.args.from.now in
    let to : ℕ → ℕ = slice_index c.args.to.now in
    said_same g.W.Write.contents c.args.output.now c.loop-node.output _ _
    (flows-all from to c.loop-node.node
    (omega (arith, c.loop-node.auto.node-end, c.loop-node-test.false))) c.loop-node.invariant
