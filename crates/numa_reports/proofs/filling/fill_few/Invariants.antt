use Rattle.std.proofs.Common.{◌≡◌, length}
use Rattle.numa_reports.proofs.filling.fill_few.Given as goal

abbrev pub invariant-loop-k : goal.invariant-loop-k
invariant-loop-k l = length l.nodes ≡ length l.fn.nodes
