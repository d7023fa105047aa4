use Rattle.numa_script.specs.declared.huge_line.HugeLine.TheVariants as huge
use Rattle.numa_host_script.proofs.Resizes.{huge-nobody, process-resizes_node}
use Rattle.numa_host_script.proofs.pooling.resize_node_in.Goals as goal

pub returns-in_default : goal.returns-in_default
returns-in_default c =
    huge-nobody c.args.running.now c.args.process
    (huge.ResizeNode c.args.node c.args.pages) c.in_default.ensures

pub returns : goal.returns
returns c =
    process-resizes_node c.args.running.now c.args.process c.in-Some.space.now c.in-Some.ensures
    c.resize_node.new.running c.resize_node.result c.args.node c.allowed-allowed.result
    c.args.pages c.allowed-allowed.ensures.allowed c.resize_node.ensures
