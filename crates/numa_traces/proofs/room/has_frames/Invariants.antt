use Rattle.std.proofs.Common.{◌≡◌, ◌<◌, ℕ}
use Rattle.numa_machine.specs.Machine.{frames_of}
use Rattle.numa_traces.proofs.room.has_frames.Given as goal

abbrev pub invariant-loop-node : goal.invariant-loop-node
invariant-loop-node l = (k : ℕ) → k < l.node → frames_of l.machine k ≡ 0
