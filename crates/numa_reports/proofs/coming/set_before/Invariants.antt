-- What the list has is found in what is left of it.
use Rattle.std.proofs.Common.{◌≡◌, length}
use Rattle.numa_reports.specs.Comings.{set_before}
use Rattle.numa_reports.proofs.coming.set_before.Given as goal

abbrev pub invariant-loop-other : goal.invariant-loop-other
invariant-loop-other l = set_before l.fn.node l.rest l.full ≡ set_before l.fn.node l.fn.nodes 0

abbrev pub decreases-loop-other : goal.decreases-loop-other
decreases-loop-other l = length l.rest
