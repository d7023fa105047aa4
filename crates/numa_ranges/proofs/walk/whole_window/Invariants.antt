-- Every page of the span before the loop's page is mapped, and the runs up to the count start at its
-- end or before it.
use Rattle.std.proofs.Common.{◌+◌}
use Rattle.numa_ranges.proofs.Walked.{IsWalked, IsCounted, EndsLast}
use Rattle.numa_ranges.proofs.walk.whole_window.Given as goal

abbrev pub invariant-loop-run : goal.invariant-loop-run
invariant-loop-run g l = record {
  walked : IsWalked l.runs l.run-iterator l.first l.page;
  counted : IsCounted l.runs l.run-iterator l.count (l.first + l.pages);
  last : EndsLast l.runs l.count l.last_end;
}
