use Rattle.std.proofs.lemmas.List.Sorted.{IsNonDecreasingBy-from_sort}
use Rattle.numa_traces.proofs.ranges.risen.Goals as goal

pub returns-clause-rises : goal.returns-clause-rises
returns-clause-rises c =
    IsNonDecreasingBy-from_sort (λ first. first) _ c.sort_unstable.ensures.sorted
