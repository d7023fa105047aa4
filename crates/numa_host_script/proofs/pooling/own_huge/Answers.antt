use Rattle.std.proofs.Common.{◌∙◌, ap}
use Rattle.numa_machine.specs.Machine.{Hardware}
use Rattle.numa_host_script.proofs.Resizes.{own-nothing, own-pools, own-resizes, own-resizes_node}
use Rattle.numa_host_script.proofs.pooling.own_huge.Goals as goal

pub returns-in-Pools : goal.returns-in-Pools
returns-in-Pools c = rw c.in-Pools.is (own-pools c.args.running.now)

pub returns-in-Resize : goal.returns-in-Resize
returns-in-Resize c =
    rw c.in-Resize.is
    (own-resizes c.args.running.now c.resize.new.running c.resize.result c.memory-memory.result
    c.in-Resize.pages (c.memory-memory.ensures.memory ∙ ap (λ (m : Hardware). m.memory)
    c.machine.ensures) c.resize.ensures)

pub returns-in-ResizeNode : goal.returns-in-ResizeNode
returns-in-ResizeNode c =
    rw c.in-ResizeNode.is
    (own-resizes_node c.args.running.now c.resize_node.new.running c.resize_node.result
    c.memory-memory.result c.in-ResizeNode.node c.in-ResizeNode.pages
    (c.memory-memory.ensures.memory ∙ ap (λ (m : Hardware). m.memory) c.machine.ensures)
    c.resize_node.ensures)

pub returns-in_default : goal.returns-in_default
returns-in_default c =
    own-nothing c.args.running.now c.args.said.now c.in_default.not-Pools c.in_default.not-Resize
    c.in_default.not-ResizeNode
