-- A range has pages of 2 MiB if one that is left has some.
use Rattle.std.proofs.Common.{◌≡◌}
use Rattle.std.specs.List.{list_any}
use Rattle.numa_machine.specs.Sizes.{is_part}
use Rattle.numa_subjects.proofs.sizes.has_huge.Given as goal

abbrev pub invariant-loop-range : goal.invariant-loop-range
invariant-loop-range l = list_any (λ range. is_part range.index) l.range-iterator
    ≡ list_any (λ range. is_part range.index) l.space.ranges
