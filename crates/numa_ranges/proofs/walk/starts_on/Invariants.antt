-- The runs up to the count start at the page or before it.
use Rattle.numa_ranges.proofs.Walked.{IsCounted}
use Rattle.numa_ranges.proofs.walk.starts_on.Given as goal

abbrev pub invariant-loop-run : goal.invariant-loop-run
invariant-loop-run g l = IsCounted l.runs l.run-iterator l.count l.page
