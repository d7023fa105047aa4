use Rattle.std.proofs.Common.{◌≡◌, length}
use Rattle.numa_reports.specs.Filled.{first_free}
use Rattle.numa_reports.proofs.filling.take_first.Given as goal

abbrev pub invariant-loop-node : goal.invariant-loop-node
invariant-loop-node l = record {
  same : l.free ≡ l.fn.free;
  left : first_free l.free l.rest ≡ first_free l.fn.free l.nodes;
}

abbrev pub decreases-loop-node : goal.decreases-loop-node
decreases-loop-node l = length l.rest
