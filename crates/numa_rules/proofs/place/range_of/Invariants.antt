use Rattle.std.proofs.Common.{◌≡◌}
use Rattle.numa_rules.specs.Reasons.{run_with}
use Rattle.numa_rules.proofs.place.range_of.Given as goal

abbrev pub invariant-loop-range : goal.invariant-loop-range
invariant-loop-range l = run_with l.range-iterator l.page ≡ run_with l.space.ranges l.page
