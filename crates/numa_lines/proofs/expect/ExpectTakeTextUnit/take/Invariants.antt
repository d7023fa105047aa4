use Rattle.std.proofs.Common.{◌≤◌, length}
use Rattle.numa_lines.proofs.expect.ExpectTakeTextUnit.take.Given as goal

abbrev pub invariant-loop-end : goal.invariant-loop-end
invariant-loop-end g l = length l.rest ≤ length l.fn.piece

abbrev pub decreases-loop-end : goal.decreases-loop-end
decreases-loop-end g l = length l.rest
