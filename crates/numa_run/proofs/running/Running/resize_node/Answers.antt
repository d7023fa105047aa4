use Rattle.std.proofs.Common.{ap, ◌∙◌}
use Rattle.numa_machine.specs.Machine.{Hardware}
use Rattle.numa_space.specs.Standing.{SpaceState}
use Rattle.numa_run.proofs.Resized.{free-of, node-refused, node-resized, told-kept, why-of}
use Rattle.numa_run.proofs.running.Running.resize_node.Goals as goal

pub returns-in-Ok : goal.returns-in-Ok
returns-in-Ok c =
    let many = c.nodes-nodes.ensures.nodes ∙ ap (λ (m : Hardware). m.nodes) c.machine.ensures
    ∙ ap (λ (s : SpaceState). s.machine.nodes) c.space-space.ensures.space in
    node-resized c.args.self.now c.in-Some.kept c.in-Some.is c.args.node c.args.pages
    c.resize_node_kept.new.kept c.allowed-allowed.result
    (c.allowed-allowed.ensures.allowed
    ∙ ap (λ (s : SpaceState). s.allowed) c.space-space.ensures.space)
    (free-of c.resize_node_kept.result (told-kept c.args.self.now c.in-Some.kept c.in-Some.is
    c.args.node c.args.pages c.nodes-nodes.result many c.resize_node_kept.result
    c.resize_node_kept.ensures.refusal) c.in-Ok.is)
    c.resize_node_kept.ensures.rest (rw c.in-Ok.is at c.resize_node_kept.ensures.resized)
    c.resize_node_kept.ensures.runs

pub returns-in-Err : goal.returns-in-Err
returns-in-Err c =
    let many = c.nodes-nodes.ensures.nodes ∙ ap (λ (m : Hardware). m.nodes) c.machine.ensures
    ∙ ap (λ (s : SpaceState). s.machine.nodes) c.space-space.ensures.space in
    rw c.pool_refusal.ensures
    (node-refused c.args.self.now c.in-Some.kept c.in-Some.is c.args.node c.args.pages
    c.resize_node_kept.new.kept (rw c.in-Err.is at c.resize_node_kept.ensures.unchanged)
    c.in-Err.why (why-of c.resize_node_kept.result c.in-Err.why
    (told-kept c.args.self.now c.in-Some.kept c.in-Some.is c.args.node c.args.pages
    c.nodes-nodes.result many c.resize_node_kept.result c.resize_node_kept.ensures.refusal) c.in-Err.is))
