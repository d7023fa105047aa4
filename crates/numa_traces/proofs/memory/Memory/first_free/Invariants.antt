use Rattle.std.proofs.Common.{◌≡◌, drop}
use Rattle.numa_traces.specs.Placing.{first_free}
use Rattle.numa_traces.proofs.memory.Memory.first_free.Given as goal

abbrev pub invariant-loop-node : goal.invariant-loop-node
invariant-loop-node l = first_free l.self.free (drop l.node-index l.nodes) ≡ first_free l.self.free
    l.nodes
