use Rattle.std.proofs.Common.{◌∙◌, ℕ, ap, subst, sym}
use Rattle.std.specs.Prelude.{min}
use Rattle.numa_machine.specs.Machine.{Hardware}
use Rattle.numa_pools.specs.Resize.{resized_node}
use Rattle.numa_page_state.proofs.Nodes.{some-same}
use Rattle.numa_run.specs.HugeLines.{most_said}
use Rattle.numa_host_huge.specs.Sharing.{with_pools}
use Rattle.numa_host_huge.specs.Standing.{HugeLies}
use Rattle.numa_host_script.proofs.Resizes.{node-free, node-none, node-refused, node-resized}
use Rattle.numa_host_script.proofs.Resizes.{node-why}
use Rattle.numa_host_script.proofs.pooling.resize_node.Goals as goal

pub returns-then-node-nodes : goal.returns-then-node-nodes
returns-then-node-nodes c =
    node-none c.args.running.now c.nodes-nodes.result c.args.node c.args.allowed.now c.args.pages
    (c.nodes-nodes.ensures.nodes ∙ ap (λ (m : Hardware). m.nodes) c.machine.ensures)
    c.if-node-nodes.true

pub returns-in-Ok : goal.returns-in-Ok
returns-in-Ok c =
    let node = some-same c.in-Some.node c.args.node (sym c.in-Some.is ∙ c.new.ensures) in
    node-resized c.args.running.now c.args.node c.args.allowed.now c.args.pages
    c.resize_node.new.self
    (node-free c.args.running.now c.args.node c.args.pages c.nodes-nodes.result c.in-Some.node
    c.min.result
    (c.nodes-nodes.ensures.nodes ∙ ap (λ (m : Hardware). m.nodes) c.machine.ensures) node
    c.min.ensures c.resize_node.result c.resize_node.ensures.refusal c.in-Ok.is)
    (λ at lies. subst (λ (n : ℕ). HugeLies c.resize_node.new.self (with_pools
    (resized_node n c.args.allowed.now (min c.args.pages most_said) at.pools) at)) node
    (subst (λ (n : ℕ). HugeLies c.resize_node.new.self (with_pools
    (resized_node c.in-Some.node c.args.allowed.now n at.pools) at)) c.min.ensures
    ((rw c.in-Ok.is at c.resize_node.ensures.resized) at lies)))

pub returns-in-Err : goal.returns-in-Err
returns-in-Err c =
    rw c.pool_refusal.ensures
    (node-refused c.args.running.now c.args.node c.args.allowed.now c.args.pages
    c.resize_node.new.self (rw c.in-Err.is at c.resize_node.ensures.unchanged) c.in-Err.why
    (node-why c.args.running.now c.args.node c.args.pages c.nodes-nodes.result c.in-Some.node
    c.min.result
    (c.nodes-nodes.ensures.nodes ∙ ap (λ (m : Hardware). m.nodes) c.machine.ensures)
    (some-same c.in-Some.node c.args.node (sym c.in-Some.is ∙ c.new.ensures)) c.min.ensures
    c.resize_node.result c.resize_node.ensures.refusal c.in-Err.why c.in-Err.is))
