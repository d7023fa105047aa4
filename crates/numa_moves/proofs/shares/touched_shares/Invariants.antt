-- The shares of the ranges so far, and of those that are left, are all.
use Rattle.std.proofs.Common.{◌≡◌, ◌++◌, List, map}
use Rattle.numa_space.specs.Standing.{StandsFor}
use Rattle.numa_requests.specs.declared.command.Command.{Command}
use Rattle.numa_compile.specs.Standing.{PlanStandsFor}
use Rattle.numa_reports.specs.Mapped.{span_of}
use Rattle.numa_reports.proofs.Refusing.{AreLeft}
use Rattle.numa_moves.specs.Shares.{shares_over, stated_in, touched_spot}
use Rattle.numa_moves.proofs.shares.touched_shares.Given as goal

abbrev pub invariant-loop-range : goal.invariant-loop-range
invariant-loop-range l = record {
  shares : (history : List Command) → StandsFor l.space history
      → PlanStandsFor l.space.machine l.plan history → l.shares.items ++ shares_over
      (stated_in (touched_spot l.space.machine history l.touch.task l.touch.cpu)) l.nodes
      (map span_of l.range-iterator)
      ≡ shares_over (stated_in (touched_spot l.space.machine history l.touch.task l.touch.cpu))
      l.nodes (map span_of l.space.ranges);
  rest : AreLeft l.range-iterator l.space.ranges;
}
