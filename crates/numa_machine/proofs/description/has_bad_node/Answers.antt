use Rattle.std.proofs.Common.{sym, length, slice_index, arith, rules}
use Rattle.numa_machine.specs.Faults.{are_bad_frames}
use Rattle.numa_machine.proofs.Nodes.{some_node-one, some_node-none}
use Rattle.numa_machine.proofs.description.has_bad_node.Goals as goal

pub returns-then-are_bad_frames : goal.returns-then-are_bad_frames
returns-then-are_bad_frames c =
    sym (some_node-one (length c.args.frames.now)
    (λ node. are_bad_frames c.args.memory.now node (slice_index c.args.frames.now node))
    c.loop-node.node (omega arith) (search rules))

pub returns : goal.returns
returns c =
    sym (some_node-none (length c.args.frames.now)
    (λ node. are_bad_frames c.args.memory.now node (slice_index c.args.frames.now node))
    (λ node h. c.loop-node.invariant node (omega arith)))
