use Rattle.std.proofs.Common.{◌≡◌, map}
use Rattle.std.specs.List.{range_with_len}
use Rattle.numa_script.specs.Machines.{frames_at}
use Rattle.numa_script.proofs.machine.frames_with_memory.Given as goal

abbrev pub invariant-loop-node : goal.invariant-loop-node
invariant-loop-node l = l.each.items ≡ map (frames_at l.memory l.frames) (range_with_len 0 l.node)
