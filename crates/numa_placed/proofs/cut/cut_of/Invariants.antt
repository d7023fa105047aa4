-- The pages below one have fewer pages of the node than go, and the others that go are behind.
use Rattle.std.proofs.Common.{◌≡◌, ◌+◌, ◌≤◌, ◌^◌}
use Rattle.numa_ranges.specs.Runs.{AreApart}
use Rattle.numa_placed.specs.Spots.{is_on, pages_within}
use Rattle.numa_placed.specs.Turns.{spots_of}
use Rattle.numa_placed.proofs.cut.cut_of.Given as goal

abbrev pub invariant-loop-run : goal.invariant-loop-run
invariant-loop-run l = record {
  within : l.low ≤ 2 ^ 35;
  apart : AreApart l.low l.run-iterator;
  below : pages_within (is_on l.node) (spots_of l.places) 0 l.low + l.left ≡ l.pages;
}
