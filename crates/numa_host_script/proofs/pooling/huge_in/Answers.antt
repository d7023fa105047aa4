use Rattle.std.proofs.Common.{refl}
use Rattle.numa_script.specs.declared.huge_line.HugeLine.TheVariants as huge
use Rattle.numa_script.specs.declared.reply.Reply.TheVariants as reply
use Rattle.numa_host_script.specs.Hosts.{plenty}
use Rattle.numa_host_script.specs.Pooling.{huge_outcome}
use Rattle.numa_host_script.proofs.Obeyed.{still}
use Rattle.numa_host_script.proofs.pooling.huge_in.Goals as goal

pub returns-in-Pools : goal.returns-in-Pools
returns-in-Pools c =
    rw c.in-Pools.is (still c.args.running.now reply.BadWords
    (λ lack at. huge_outcome lack.lacked at c.args.process huge.Pools) plenty
    (λ at stands. refl))

pub returns-in-Resize : goal.returns-in-Resize
returns-in-Resize c = rw c.in-Resize.is c.resize_in.ensures

pub returns-in-ResizeNode : goal.returns-in-ResizeNode
returns-in-ResizeNode c = rw c.in-ResizeNode.is c.resize_node_in.ensures

pub returns-in-ResizeFor : goal.returns-in-ResizeFor
returns-in-ResizeFor c = rw c.in-ResizeFor.is c.resize_for.ensures

pub returns-in-Map : goal.returns-in-Map
returns-in-Map c = rw c.in-Map.is c.map.ensures

pub returns-in-Fault : goal.returns-in-Fault
returns-in-Fault c = rw c.in-Fault.is c.fault.ensures
