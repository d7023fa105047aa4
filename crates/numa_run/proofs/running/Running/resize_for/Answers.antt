use Rattle.std.proofs.Common.{ℕ, ap, sym, ◌∙◌}
use Rattle.std.proofs.lemmas.Bool.{le-leb, lt-leb}
use Rattle.std.specs.Prelude.{nat_le}
use Rattle.numa_machine.specs.Machine.{Hardware}
use Rattle.numa_page_state.specs.Huge.{resizing_nodes}
use Rattle.numa_space.specs.Standing.{SpaceState}
use Rattle.numa_run.proofs.Resized.{for-nowhere, for-resized}
use Rattle.numa_run.proofs.running.Running.resize_for.Goals as goal

pub returns-then-cpu-nodes : goal.returns-then-cpu-nodes
returns-then-cpu-nodes c =
    for-nowhere c.args.self.now c.args.pages c.args.task c.args.cpu
    (ap (λ (n : ℕ). nat_le n c.args.cpu) (sym (c.nodes.ensures.nodes
    ∙ ap (λ (m : Hardware). m.nodes) c.machine.ensures
    ∙ ap (λ (s : SpaceState). s.machine.nodes) c.space-space.ensures.space))
    ∙ le-leb c.nodes.result c.args.cpu c.if-cpu-nodes.true)

pub returns : goal.returns
returns c =
    for-resized c.args.self.now c.args.pages c.args.task c.args.cpu c.task_policy.result
    c.resizing_nodes-nodes.result
    (rw c.space-space.ensures.space at c.task_policy.ensures.meaning)
    (c.resizing_nodes-nodes.ensures ∙ ap (λ (n : ℕ). resizing_nodes c.task_policy.result n
    c.args.cpu) (c.memory.ensures.memory ∙ ap (λ (m : Hardware). m.memory) c.machine-2.ensures
    ∙ ap (λ (s : SpaceState). s.machine.memory) c.space-space.ensures.space))
    (ap (λ (n : ℕ). nat_le n c.args.cpu) (sym (c.nodes.ensures.nodes
    ∙ ap (λ (m : Hardware). m.nodes) c.machine.ensures
    ∙ ap (λ (s : SpaceState). s.machine.nodes) c.space-space.ensures.space))
    ∙ lt-leb c.nodes.result c.args.cpu c.if-cpu-nodes.false)
    c.resize.new.self c.resize.result c.resize.ensures
