use Rattle.std.proofs.Common.{◌≡◌, ◌<◌, ℕ, slice_index, length}
use Rattle.numa_machine.specs.Machine.{frames_of}
use Rattle.numa_traces.proofs.memory.all_frames.Given as goal

abbrev pub invariant-loop-node : goal.invariant-loop-node
invariant-loop-node l = record {
  long : length l.frames.items ≡ l.node;
  each : (k : ℕ) → k < l.node → slice_index l.frames.items k ≡ frames_of l.machine k;
}
