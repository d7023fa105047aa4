use Rattle.std.proofs.Common.{◌≤◌, length}
use Rattle.numa_lines.proofs.Marks.{LacksFrom}
use Rattle.numa_lines.proofs.worked.last_mark.Given as goal

abbrev pub invariant-loop-place : goal.invariant-loop-place
invariant-loop-place l = (l.end ≤ length l.fn.text) × LacksFrom l.fn.text l.end

abbrev pub decreases-loop-place : goal.decreases-loop-place
decreases-loop-place l = l.end
