use Rattle.std.proofs.Common.{◌≡◌, ℕ, ap, sym, subst, ◌∙◌}
use Rattle.std.specs.Prelude.{OnOk}
use Rattle.numa_pools.specs.Resize.{node_refusal, resized_node}
use Rattle.numa_page_state.proofs.Nodes.{none-above, some-same}
use Rattle.numa_page_state.proofs.pooling.resize_node.Goals as goal

pub returns-then-node-nodes-clause-refusal : goal.returns-then-node-nodes-clause-refusal
returns-then-node-nodes-clause-refusal c =
    none-above c.args.places.now.pools c.args.nodes c.args.node c.args.pages c.if-node-nodes.true

pub returns-clause-refusal : goal.returns-clause-refusal
returns-clause-refusal c =
    c.resize_node.ensures.refusal ∙ ap (λ (n : ℕ). node_refusal c.args.nodes c.args.places.now.pools
    n c.args.pages) (some-same c.in-Some.node c.args.node (sym c.in-Some.is ∙ c.new.ensures))

pub returns-clause-resized : goal.returns-clause-resized
returns-clause-resized c =
    subst (λ (n : ℕ). OnOk c.resize_node.result (c.resize_node.new.self.pools
    ≡ resized_node n c.args.allowed.now c.args.pages c.args.places.now.pools))
    (some-same c.in-Some.node c.args.node (sym c.in-Some.is ∙ c.new.ensures))
    c.resize_node.ensures.resized
