use Rattle.std.proofs.Common.{◌∙◌, ℕ, ap, sym}
use Rattle.std.proofs.lemmas.Bool.{le-leb, lt-leb}
use Rattle.std.specs.Prelude.{nat_le}
use Rattle.numa_machine.specs.Machine.{Hardware}
use Rattle.numa_script.specs.declared.huge_line.HugeLine.TheVariants as huge
use Rattle.numa_host_script.proofs.Resizes.{for-nowhere, for-resized, huge-nobody}
use Rattle.numa_host_script.proofs.pooling.resize_for.Goals as goal

pub returns-in_default : goal.returns-in_default
returns-in_default c =
    huge-nobody c.args.running.now c.args.process
    (huge.ResizeFor c.args.pages c.args.task c.args.cpu) c.in_default.ensures

pub returns-then-cpu-nodes : goal.returns-then-cpu-nodes
returns-then-cpu-nodes c =
    for-nowhere c.args.running.now c.args.process c.in-Some.space.now c.in-Some.ensures
    c.args.pages c.args.task c.args.cpu
    (ap (λ (n : ℕ). nat_le n c.args.cpu) (sym (c.nodes.ensures.nodes
    ∙ ap (λ (m : Hardware). m.nodes) c.machine.ensures))
    ∙ le-leb c.nodes.result c.args.cpu c.if-cpu-nodes.true)

pub returns : goal.returns
returns c =
    for-resized c.args.running.now c.args.process c.in-Some.space.now c.in-Some.ensures
    c.args.pages c.args.task c.args.cpu c.resize.new.running c.resize.result c.task_policy.result
    c.memory-memory.result c.resizing_nodes-nodes.result c.allowed-allowed.result
    (ap (λ (n : ℕ). nat_le n c.args.cpu) (sym (c.nodes.ensures.nodes
    ∙ ap (λ (m : Hardware). m.nodes) c.machine.ensures))
    ∙ lt-leb c.nodes.result c.args.cpu c.if-cpu-nodes.false)
    c.task_policy.ensures.meaning
    (c.memory-memory.ensures.memory ∙ ap (λ (m : Hardware). m.memory) c.machine-2.ensures)
    c.resizing_nodes-nodes.ensures c.allowed-allowed.ensures.allowed c.resize.ensures
