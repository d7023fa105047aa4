use Rattle.numa_mask.proofs.Written.{IsWritten}
use Rattle.numa_mask.proofs.text.list_text.Given as goal

abbrev pub invariant-loop-node : goal.invariant-loop-node
invariant-loop-node l = IsWritten l.set l.node-iterator l.yielded l.text.bytes
