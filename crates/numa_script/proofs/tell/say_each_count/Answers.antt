use Rattle.std.proofs.Common.{ℕ, slice_index, sym, arith}
use Rattle.numa_lines.proofs.Adding.{said_both, said_nothing, said_same}
use Rattle.numa_script.proofs.Counts.{counts-none, counts-more, counts-all}
use Rattle.numa_script.proofs.tell.say_each_count.Goals as goal

pub loop-node-init : goal.loop-node-init
loop-node-init g c =
    let pages : ℕ → ℕ = λ node. slice_index c.args.pages.now node in
    said_same g.W.Write.contents c.args.output.now c.args.output.now _ _ (sym (counts-none pages))
    (said_nothing g.W.Write.contents c.args.output.now)

pub loop-node-preserved : goal.loop-node-preserved
loop-node-preserved g c =
    let pages : ℕ → ℕ = λ node. slice_index c.args.pages.now node in
    said_same g.W.Write.contents c.args.output.now c.say_count_of.new.output _ _
    (sym (counts-more pages c.loop-node.node))
    (said_both g.W.Write.contents c.args.output.now c.loop-node.output c.say_count_of.new.output _ _
    c.loop-node.invariant c.say_count_of.ensures)

pub returns : goal.returns
returns g c =
    let pages : ℕ → ℕ = λ node. slice_index c.args.pages.now node in
    said_same g.W.Write.contents c.args.output.now c.loop-node.output _ _
    (counts-all pages c.loop-node.node
    (omega (arith, c.loop-node.auto.node-end, c.loop-node-test.false))) c.loop-node.invariant
