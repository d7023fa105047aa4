-- Every page of the span before the loop's page is mapped.
use Rattle.numa_ranges.proofs.Walked.{IsWalked}
use Rattle.numa_ranges.proofs.walk.lacks_page.Given as goal

abbrev pub invariant-loop-run : goal.invariant-loop-run
invariant-loop-run g l = IsWalked l.runs l.run-iterator l.first l.page
