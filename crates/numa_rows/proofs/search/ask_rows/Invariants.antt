use Rattle.std.proofs.Common.{◌+◌, ◌≤◌}
use Rattle.numa_rows.specs.Parts.{flat}
use Rattle.numa_rows.specs.Searches.{IsChunkOf, Narrows}
use Rattle.numa_rows.proofs.search.ask_rows.Given as goal

abbrev pub invariant-loop-left : goal.invariant-loop-left
invariant-loop-left g l = record {
  within : l.left.base + l.left.size ≤ l.len;
  stands : IsChunkOf (flat l.chunks) l.part;
  narrowed : Narrows g.P.Fn l.pred (flat l.chunks) l.fn.left.base l.fn.left.size l.left.base
      l.left.size;
}

abbrev pub decreases-loop-left : goal.decreases-loop-left
decreases-loop-left g l = l.left.size
