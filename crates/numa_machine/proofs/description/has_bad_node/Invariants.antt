use Rattle.std.proofs.Common.{◌≡◌, ℕ, ◌<◌, false, slice_index}
use Rattle.numa_machine.specs.Faults.{are_bad_frames}
use Rattle.numa_machine.proofs.description.has_bad_node.Given as goal

abbrev pub invariant-loop-node : goal.invariant-loop-node
invariant-loop-node l = (k : ℕ) → k < l.node → are_bad_frames l.memory k (slice_index l.frames k)
    ≡ false
