-- The shares of the ranges so far, and of those that are left, are all.
use Rattle.std.proofs.Common.{◌≡◌, ◌++◌, map}
use Rattle.numa_placed.specs.Spots.{spot_at}
use Rattle.numa_reports.specs.Mapped.{span_of}
use Rattle.numa_reports.proofs.Refusing.{AreLeft}
use Rattle.numa_moves.specs.Shares.{shares_over, stated_in}
use Rattle.numa_moves.proofs.shares.stated_shares.Given as goal

abbrev pub invariant-loop-range : goal.invariant-loop-range
invariant-loop-range l = record {
  shares : l.shares.items
      ++ shares_over (stated_in (spot_at l.placed)) l.nodes (map span_of l.range-iterator)
      ≡ shares_over (stated_in (spot_at l.placed)) l.nodes (map span_of l.space.ranges);
  rest : AreLeft l.range-iterator l.space.ranges;
}
