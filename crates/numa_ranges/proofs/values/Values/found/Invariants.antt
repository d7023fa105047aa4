-- There is nothing to keep.
use Rattle.numa_ranges.proofs.values.Values.found.Given as goal

abbrev pub invariant-loop-place : goal.invariant-loop-place
invariant-loop-place g l = Unit {0}
