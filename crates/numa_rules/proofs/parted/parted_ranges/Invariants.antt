-- No range so far has one.
use Rattle.std.proofs.Common.{◌≡◌}
use Rattle.numa_rules.specs.Otherwise.{parted_ranges}
use Rattle.numa_rules.proofs.parted.parted_ranges.Given as goal

abbrev pub invariant-loop-range : goal.invariant-loop-range
invariant-loop-range l = parted_ranges l.before l.after l.range-iterator
    ≡ parted_ranges l.before l.after l.space.ranges
