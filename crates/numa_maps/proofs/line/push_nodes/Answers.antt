use Rattle.std.proofs.Common.{ℕ, ◌++◌, slice_index, ap, sym, ◌∙◌, arith, append_assoc}
use Rattle.std.proofs.lemmas.List.{append-nil}
use Rattle.numa_maps.specs.Listing.{node_text}
use Rattle.numa_maps.proofs.Lines.{nodes_below, nodes-none, nodes-more, nodes-all}
use Rattle.numa_maps.proofs.line.push_nodes.Goals as goal

pub loop-node-init : goal.loop-node-init
loop-node-init c =
    let pages : ℕ → ℕ = λ node. slice_index c.args.pages.now node in
    record {
      bytes = sym (append-nil c.args.text.now.bytes) ∙ ap (λ x. c.args.text.now.bytes ++ x)
          (sym (nodes-none pages));
      short = omega arith;
    }

pub loop-node-preserved : goal.loop-node-preserved
loop-node-preserved c =
    let pages : ℕ → ℕ = λ node. slice_index c.args.pages.now node in
    record {
      bytes =
          c.push_node.ensures.bytes ∙ ap
          (λ x. x ++ node_text c.loop-node.node (pages c.loop-node.node))
          c.loop-node.invariant.bytes
          ∙ append_assoc c.args.text.now.bytes (nodes_below pages c.loop-node.node)
          (node_text c.loop-node.node (pages c.loop-node.node))
          ∙ ap (λ x. c.args.text.now.bytes ++ x) (sym (nodes-more pages c.loop-node.node));
      short = omega (arith, c.push_node.ensures.short, c.loop-node.invariant.short);
    }

pub returns-clause-bytes : goal.returns-clause-bytes
returns-clause-bytes c =
    let pages : ℕ → ℕ = λ node. slice_index c.args.pages.now node in
    c.loop-node.invariant.bytes ∙ ap (λ x. c.args.text.now.bytes ++ x)
    (nodes-all pages c.loop-node.node
    (omega (arith, c.loop-node.auto.node-end, c.loop-node-test.false)))
