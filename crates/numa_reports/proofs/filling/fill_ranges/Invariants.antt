use Rattle.std.proofs.Common.{◌≡◌, ◌<◌, List}
use Rattle.numa_ranges.specs.Runs.{AreApart}
use Rattle.numa_compile.specs.Standing.{PlanStandsFor}
use Rattle.numa_space.specs.Standing.{StandsFor}
use Rattle.numa_requests.specs.declared.command.Command.{Command}
use Rattle.numa_reports.specs.Lying.{absent_nodes, asked_nodes, spots_in}
use Rattle.numa_reports.specs.Told.{IsTakenBeside, LacksOne}
use Rattle.numa_reports.proofs.Refusing.{AreLeft}
use Rattle.numa_reports.proofs.Taking.{free_runs}
use Rattle.numa_reports.proofs.Telling.{FilledEach}
use Rattle.numa_reports.proofs.filling.fill_ranges.Given as goal

abbrev pub invariant-loop-range : goal.invariant-loop-range
invariant-loop-range g l = record {
  left : (history : List Command) → StandsFor l.asked.space.now history
      → PlanStandsFor l.asked.space.now.machine l.asked.plan.now history
      → free_runs (absent_nodes (spots_in l.asked.placed)
      (asked_nodes l.asked)) l.free l.range-iterator
      ≡ free_runs (absent_nodes (spots_in l.asked.placed)
      (asked_nodes l.asked)) l.fn.free l.asked.space.now.ranges;
  apart : AreApart 0 l.asked.space.now.ranges;
  known : l.asked.touch.cpu < l.asked.space.now.machine.nodes;
  rest : AreLeft l.range-iterator l.asked.space.now.ranges;
  lack : LacksOne g.T.TakeRange.lacks l.range-iterator
      → LacksOne g.T.TakeRange.lacks l.asked.space.now.ranges;
  told : (history : List Command) → StandsFor l.asked.space.now history
      → PlanStandsFor l.asked.space.now.machine l.asked.plan.now history → (end : g.row.T.Denot)
      → FilledEach g.T.TakeRange.told (IsTakenBeside l.asked.space.now.machine history
      l.asked.placed l.asked.touch.task)
      (absent_nodes (spots_in l.asked.placed)
      (asked_nodes l.asked)) l.free l.range-iterator l.taker end
      → FilledEach g.T.TakeRange.told (IsTakenBeside l.asked.space.now.machine history
      l.asked.placed l.asked.touch.task)
      (absent_nodes (spots_in l.asked.placed)
      (asked_nodes l.asked)) l.fn.free l.asked.space.now.ranges l.fn.taker end;
}
