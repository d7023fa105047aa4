use Rattle.std.proofs.Common.{◌≡◌, ◌++◌, map}
use Rattle.numa_ranges.specs.Runs.{AreApart}
use Rattle.numa_reports.specs.Mapped.{span_of}
use Rattle.numa_reports.proofs.outlook.spans_of.Given as goal

abbrev pub invariant-loop-range : goal.invariant-loop-range
invariant-loop-range l = record {
  spans : l.spans.items ++ map span_of l.range-iterator ≡ map span_of l.space.ranges;
  apart : AreApart 0 l.space.ranges;
}
