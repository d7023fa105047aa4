use Rattle.std.proofs.Common.{◌+◌, ◌-◌, ◌≤◌, length}
use Rattle.numa_rows.specs.Parts.{flat}
use Rattle.numa_rows.specs.Searches.{Narrows}
use Rattle.numa_rows.proofs.search.ask_firsts.Given as goal

abbrev pub invariant-loop-low : goal.invariant-loop-low
invariant-loop-low g l = record {
  places : l.high ≤ length l.starts;
  within : l.left.base + l.left.size ≤ l.len;
  narrowed : Narrows g.P.Fn l.pred (flat l.chunks) l.fn.left.base l.fn.left.size l.left.base
      l.left.size;
}

abbrev pub decreases-loop-low : goal.decreases-loop-low
decreases-loop-low g l = l.high - l.low
